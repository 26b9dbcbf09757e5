use Rattle.std.proofs.Common.{◌∙◌, ◌+◌, ℕ, ap, drop, false, get_or, sym}
use Rattle.irp_orders.specs.Rows.{all_orders}
use Rattle.irp_orders.specs.Told.{marked, with_orders}
use Rattle.irp_orders.specs.declared.found.Found.{Found}
use Rattle.irp_orders.proofs.Marking.{next_marked}
use Rattle.irp_orders.proofs.judging.marked_orders.Goals as goal

pub loop-place-preserved : goal.loop-place-preserved
loop-place-preserved c =
    let founds = c.args.founds.now in
    let marks = c.args.marks.now in
    let place = c.loop-place.place in
    let orders = c.loop-place.orders in
    let mark = get_or marks place false in
    let rest = marked (drop (place + 1) founds) (drop (place + 1) marks) in
    c.loop-place.invariant
    ∙ next_marked founds marks orders place c.index-founds-place.result false c.loop-place-test.true c.requires
    ∙ ap (λ (found : Found). all_orders (with_orders orders found mark) rest) (sym c.index-founds-place.is)
    ∙ ap (λ (orders : ℕ). all_orders orders rest) (sym c.with_orders-orders.ensures)
