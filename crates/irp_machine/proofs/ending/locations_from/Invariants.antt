use Rattle.std.proofs.Common.{◌≡◌}
use Rattle.irp_machine.specs.Endings.{locations_from}
use Rattle.irp_machine.proofs.ending.locations_from.Given as goal

abbrev pub invariant-loop-above : goal.invariant-loop-above
invariant-loop-above l = l.locations.items ≡ locations_from l.packet l.number l.above
