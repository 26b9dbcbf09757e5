-- What making an entry again shows.
use Rattle.std.specs.Prelude.{ℕ, ◌≡◌, Option, None, Some}
use Rattle.irp_judge.specs.Recorded.{AreTold}
use Rattle.irp_manager.specs.Notes.{known_by}
use Rattle.irp_types.specs.State.{Fixed, StateValue, live_at}
use Rattle.irp_types.specs.Histories.{IsEntryAt}
use Rattle.irp_types.specs.declared.call.Call.TheVariants.{Allocate}
use Rattle.irp_types.specs.declared.entry.Entry.{Entry}
use Rattle.irp_types.specs.declared.names.IrpRef.{IrpRef}
use Rattle.irp_types.specs.declared.reply.Reply.{Reply}
use Rattle.irp_types.specs.declared.reply.Reply.TheVariants.{Irp}

-- no step makes this entry of a state
abbrev pub IsNoEntryAt : Fixed → ℕ → StateValue → Entry → Type 0
IsNoEntryAt fixed number old entry = (new : StateValue) → IsEntryAt fixed number old entry new → ⊥

-- whether the lock is known drained is as the entry tells where there is a lock, and false where there is none
abbrev pub IsDrainedTold : Entry → Entry → Type 0
IsDrainedTold entry made = made.drained ≡ known_by (λ lock. entry.drained) made.lock

-- an allocated packet lies in the slot that the entry's reply names, where that isn't live
abbrev pub IsSlotTold : StateValue → Entry → Entry → Type 0
IsSlotTold old entry made =
    (size : ℕ) (irp told : IrpRef)
    → made.call ≡ Allocate size → made.reply ≡ Irp irp → entry.reply ≡ Irp told
    → live_at old told.slot ≡ None → irp.slot ≡ told.slot

-- what the manager makes of an entry's call, answered as the entry tells where that is allowed: an entry of the same
-- seat and call, with its `drained` and its slot, which leads from the old state to the new one; where it isn't the
-- entry itself, no step makes that
pub record IsMadeOf (fixed : Fixed) (number : ℕ) (old : StateValue) (entry made : Entry) (new : StateValue)
    : Type 0 where
  pub seat : made.seat ≡ entry.seat
  pub call : made.call ≡ entry.call
  pub told : AreTold fixed.tables entry.asked made.asked
  pub drained : IsDrainedTold entry made
  pub slot : IsSlotTold old entry made
  pub follows : IsEntryAt fixed number old made new
  pub other : (made ≡ entry → ⊥) → IsNoEntryAt fixed number old entry

-- the slot of the packet that a reply names
abbrev pub slot_named : Reply → Option ℕ
slot_named (Irp irp) = Some irp.slot
slot_named other = None
