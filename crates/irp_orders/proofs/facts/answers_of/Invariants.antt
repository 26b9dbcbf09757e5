use Rattle.std.proofs.Common.{◌≡◌}
use Rattle.irp_orders.specs.Facts.{answers_below}
use Rattle.irp_orders.proofs.facts.answers_of.Given as goal

abbrev pub invariant-loop-place : goal.invariant-loop-place
invariant-loop-place l = l.answers.items ≡ answers_below l.steps l.end.replies l.place
