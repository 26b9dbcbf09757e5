use Rattle.std.proofs.Common.{◌≡◌, drop}
use Rattle.irp_orders.specs.Rows.{all_orders}
use Rattle.irp_orders.specs.Told.{marked}
use Rattle.irp_orders.proofs.judging.marked_orders.Given as goal

-- with the orders of those that are left it is all of them
abbrev pub invariant-loop-place : goal.invariant-loop-place
invariant-loop-place l =
    all_orders 0 (marked l.founds l.marks) ≡ all_orders l.orders (marked (drop l.place l.founds) (drop l.place l.marks))
