use Rattle.std.proofs.Common.{codes, ◌++◌}
use Rattle.std.specs.Fmt.{decimal}
use Rattle.irp_orders.specs.Counts.{orders_text}
use Rattle.irp_orders.specs.Table.{joined_text, share_text}
use Rattle.irp_names.proofs.Saying.{says_both}
use Rattle.irp_orders.proofs.Putting.{says_told}
use Rattle.irp_orders.proofs.table.put_head.Goals as goal

pub returns : goal.returns
returns c =
    let found = c.args.found.now in
    let number = decimal c.args.number in
    let orders = decimal found.orders in
    let whole = orders_text c.args.whole in
    let share = share_text found.orders c.args.whole in
    let joined = joined_text found.joined in
    says_both (codes "outcome " ++ (number ++ (codes ": " ++ (orders ++ (codes " of " ++ (whole ++ (share ++ (joined)))))))) (codes "\n") _ _ _
    (says_told (codes "outcome ") number (codes ": " ++ (orders ++ (codes " of " ++ (whole ++ (share ++ (joined)))))) _ _ _ c.tell.ensures
    (says_told (codes ": ") orders (codes " of " ++ (whole ++ (share ++ (joined)))) _ _ _ c.tell-2.ensures
    (says_both (codes " of ") (whole ++ (share ++ (joined))) _ _ _ c.put.ensures
    (says_both whole (share ++ (joined)) _ _ _ c.put_orders.ensures
    (says_both share (joined) _ _ _ c.put_share.ensures
    c.put_joined.ensures)))))
    c.put-2.ensures
