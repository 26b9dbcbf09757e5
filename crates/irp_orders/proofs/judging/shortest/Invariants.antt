use Rattle.irp_orders.specs.Judging.{IsShortestBelow}
use Rattle.irp_orders.proofs.judging.shortest.Given as goal

abbrev pub invariant-loop-place : goal.invariant-loop-place
invariant-loop-place l = IsShortestBelow l.founds l.marks l.place l.best
