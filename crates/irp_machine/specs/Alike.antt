-- Parts of packets at the end that are equal.
use Rattle.std.specs.Prelude.{◌≡◌}
use Rattle.irp_machine.specs.declared.live_end.LiveEnd.{LiveEnd}

-- two packets stand in one slot under one use, at one location, with one owner and preparation, and both or neither is
-- in a cancel slot
pub record IsSameUse (one other : LiveEnd) : Type 0 where
  pub slot : one.slot ≡ other.slot
  pub use_no : one.use_no ≡ other.use_no
  pub owner : one.owner ≡ other.owner
  pub current : one.current ≡ other.current
  pub preparation : one.preparation ≡ other.preparation
  pub slot_held : one.slot_held ≡ other.slot_held

-- two packets have the same status block, the same flags and the same cancel routine
pub record IsSameBlock (one other : LiveEnd) : Type 0 where
  pub status : one.status ≡ other.status
  pub information : one.information ≡ other.information
  pub pending_returned : one.pending_returned ≡ other.pending_returned
  pub cancel : one.cancel ≡ other.cancel
  pub cancel_routine : one.cancel_routine ≡ other.cancel_routine
