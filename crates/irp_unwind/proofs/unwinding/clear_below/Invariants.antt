use Rattle.std.proofs.Common.{◌≡◌, ◌-◌, ◌++◌, replicate, drop}
use Rattle.irp_types.specs.Packet.{cleared}
use Rattle.irp_unwind.proofs.unwinding.clear_below.Given as goal

abbrev pub invariant-loop-number : goal.invariant-loop-number
invariant-loop-number l = l.packet ≡ record l.initial.packet { locations = replicate (l.number - 1) cleared ++ drop (l.number - 1) l.initial.packet.locations }
