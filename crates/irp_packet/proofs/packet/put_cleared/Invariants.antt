use Rattle.std.proofs.Common.{◌≡◌, replicate}
use Rattle.irp_types.specs.Packet.{cleared}
use Rattle.irp_packet.proofs.packet.put_cleared.Given as goal

abbrev pub invariant-loop-number : goal.invariant-loop-number
invariant-loop-number l = l.locations.items ≡ replicate l._number cleared
