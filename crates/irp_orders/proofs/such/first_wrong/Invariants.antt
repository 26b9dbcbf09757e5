use Rattle.std.proofs.Common.{◌<◌, ℕ}
use Rattle.irp_orders.specs.Such.{IsRightAt}
use Rattle.irp_orders.proofs.such.first_wrong.Given as goal

-- no fact below this place is wrong
abbrev pub invariant-loop-place : goal.invariant-loop-place
invariant-loop-place l = (below : ℕ) → below < l.place → IsRightAt l.facts l.topic below
