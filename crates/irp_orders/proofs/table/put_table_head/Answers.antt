use Rattle.std.proofs.Common.{codes, ◌++◌}
use Rattle.std.specs.Fmt.{decimal}
use Rattle.irp_orders.specs.Counts.{orders_text}
use Rattle.irp_names.proofs.Saying.{says_both}
use Rattle.irp_orders.proofs.Putting.{says_told}
use Rattle.irp_orders.proofs.table.put_table_head.Goals as goal

pub returns : goal.returns
returns c =
    let outcomes = decimal c.args.outcomes in
    let orders = orders_text c.args.orders in
    says_both (codes "outcomes: " ++ (outcomes ++ (codes ", of " ++ (orders)))) (codes "\n") _ _ _
    (says_told (codes "outcomes: ") outcomes (codes ", of " ++ (orders)) _ _ _ c.tell.ensures
    (says_both (codes ", of ") (orders) _ _ _ c.put.ensures
    c.put_orders.ensures))
    c.put-2.ensures
