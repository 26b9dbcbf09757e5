use Rattle.std.proofs.Common.{◌≡◌}
use Rattle.irp_machine.specs.Endings.{devices_below}
use Rattle.irp_machine.proofs.ending.devices_of.Given as goal

abbrev pub invariant-loop-device : goal.invariant-loop-device
invariant-loop-device l = l.devices.items ≡ devices_below l.stacks.devices l.device
