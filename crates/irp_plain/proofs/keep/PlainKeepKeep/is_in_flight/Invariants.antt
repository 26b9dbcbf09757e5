use Rattle.std.proofs.Common.{◌≡◌, ℕ, ◌<◌, false, Some}
use Rattle.irp_types.specs.State.{LivePacket}
use Rattle.irp_types.specs.Refusals.{has_packet}
use Rattle.irp_manager.specs.Slots.{place_at}
use Rattle.irp_plain.proofs.keep.PlainKeepKeep.is_in_flight.Given as goal

-- the device has none of the packets so far
abbrev pub invariant-loop-place : goal.invariant-loop-place
invariant-loop-place l =
    (lower : ℕ) (live : LivePacket) → lower < l.place-index → place_at l.self lower ≡ Some live
    → has_packet l.device.0 live.packet ≡ false
