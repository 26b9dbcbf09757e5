-- Parts of devices and packets that are equal.
use Rattle.std.specs.Prelude.{ℕ, ◌≡◌, length, slice_get}
use Rattle.irp_types.specs.Packet.{PacketValue}
use Rattle.irp_types.specs.Stacks.{DevicesValue, stack_of, stack_size_of, lower_of, upper_of}

-- a device has the same facts in both, and the same place between the same neighbours, in stacks of one height
pub record IsAlike (one other : DevicesValue) (device : ℕ) : Type 0 where
  pub facts : slice_get one.facts device ≡ slice_get other.facts device
  pub height : length (stack_of one device) ≡ length (stack_of other device)
  pub place : stack_size_of one device ≡ stack_size_of other device
  pub lower : lower_of one device ≡ lower_of other device
  pub upper : upper_of one device ≡ upper_of other device

-- two packets have the same status block, the same flags and the same cancel routine
pub record IsSameBlock (one other : PacketValue) : Type 0 where
  pub status : one.status ≡ other.status
  pub information : one.information ≡ other.information
  pub pending_returned : one.pending_returned ≡ other.pending_returned
  pub cancel : one.cancel ≡ other.cancel
  pub cancel_routine : one.cancel_routine ≡ other.cancel_routine

-- two packets stand at the same location, have the same owner and preparation, and both or neither is in a cancel slot
pub record IsSameUse (one other : PacketValue) : Type 0 where
  pub current : one.current ≡ other.current
  pub owner : one.owner ≡ other.owner
  pub preparation : one.preparation ≡ other.preparation
  pub slot_held : one.slot_held ≡ other.slot_held
