use Rattle.std.proofs.Common.{◌≡◌}
use Rattle.irp_machine.specs.Endings.{locks_below}
use Rattle.irp_machine.proofs.ending.locks_of.Given as goal

abbrev pub invariant-loop-lock : goal.invariant-loop-lock
invariant-loop-lock l = l.locks.items ≡ locks_below l.words l.seats l.lock
