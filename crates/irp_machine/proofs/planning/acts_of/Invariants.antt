use Rattle.std.proofs.Common.{◌≡◌}
use Rattle.irp_machine.specs.Planning.{acts_below}
use Rattle.irp_machine.proofs.planning.acts_of.Given as goal

abbrev pub invariant-loop-seat : goal.invariant-loop-seat
invariant-loop-seat l = l.acts.items ≡ acts_below l.rivals l.steps l.seat
