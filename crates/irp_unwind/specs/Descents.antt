-- How a descent ends, and all that it does.
use Rattle.std.specs.Prelude.{ℕ, ◌≡◌, ◌+◌, ◌-◌, ◌++◌, List}
use Rattle.std.specs.List.{AllByRecursion}
use Rattle.irp_types.specs.Packet.{PacketValue, size_of}
use Rattle.irp_types.specs.Stacks.{DevicesValue, stack_size_of}
use Rattle.irp_types.specs.State.{Tables}
use Rattle.irp_types.specs.Descent.{Descended, last_frame}
use Rattle.irp_types.specs.declared.names.IrpRef.{IrpRef}
use Rattle.irp_types.specs.declared.asked.Asked.{Asked}
use Rattle.irp_unwind.specs.declared.ending.Sent.{Sent}
use Rattle.irp_unwind.specs.Devices.{ending_at}

-- a descent: what it asked stands behind the others in the list of what was asked, each answered as it may, and the
-- packet that is left, the status of the reply and how it ended are those of the frames
pub record Descends (may : Asked → Type 0) (tables : Tables) (irp : IrpRef) (devices : DevicesValue) (old : PacketValue)
    (target : ℕ) (new : PacketValue) (before after : List Asked) (sent : Sent) : Type 0 where
  pub asked : List Asked
  pub descended : Descended tables irp devices old target asked new sent.status
  pub listed : after ≡ before ++ asked
  pub given : AllByRecursion may asked
  pub ended :
      sent.ending
      ≡ ending_at (last_frame descended.frames) descended.reached descended.unwinding (last_frame descended.frames).plan

-- how many locations a packet can come to on its way down through so many devices, and up again: those from the lowest
-- that it reaches
abbrev pub within_reach : PacketValue → ℕ → ℕ
within_reach packet depth = size_of packet - ((packet.current - 1) - depth)

-- how many questions a descent can ask: one to each device from the target down, and one to each location that the
-- packet may come to
abbrev pub can_ask_down : DevicesValue → PacketValue → ℕ → ℕ
can_ask_down devices packet target = stack_size_of devices target + within_reach packet (stack_size_of devices target)
