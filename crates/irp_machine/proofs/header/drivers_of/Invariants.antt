use Rattle.std.proofs.Common.{take}
use Rattle.irp_machine.specs.Headers.{AreSorted}
use Rattle.irp_machine.proofs.header.drivers_of.Given as goal

abbrev pub invariant-loop-driver : goal.invariant-loop-driver
invariant-loop-driver l = AreSorted (take l.driver-index l.drivers) l.sorted.items
