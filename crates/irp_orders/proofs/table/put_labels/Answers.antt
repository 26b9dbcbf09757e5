use Rattle.irp_orders.specs.Table.{label_line}
use Rattle.irp_orders.proofs.Numbering.{says_item}
use Rattle.irp_orders.proofs.table.put_labels.Goals as goal

pub loop-place-preserved : goal.loop-place-preserved
loop-place-preserved c =
    says_item (label_line c.args.columns.now c.args.end.now) c.args.labels.now c.loop-place.place c.index-labels-place.result c.args.out.now c.loop-place.out c.put_label_at.new.out
    c.loop-place-test.true c.index-labels-place.is c.loop-place.invariant c.put_label_at.ensures
