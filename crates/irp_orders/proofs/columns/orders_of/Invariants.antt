use Rattle.std.proofs.Common.{◌≡◌, drop}
use Rattle.irp_orders.specs.Rows.{all_orders}
use Rattle.irp_orders.proofs.columns.orders_of.Given as goal

-- with the orders of those that are left it is all of them
abbrev pub invariant-loop-found : goal.invariant-loop-found
invariant-loop-found l = all_orders 0 l.founds ≡ all_orders l.orders (drop l.found-index l.founds)
