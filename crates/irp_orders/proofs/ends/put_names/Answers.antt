use Rattle.irp_orders.specs.Ends.{name_text}
use Rattle.irp_orders.proofs.Numbering.{says_item}
use Rattle.irp_orders.proofs.ends.put_names.Goals as goal

pub loop-place-preserved : goal.loop-place-preserved
loop-place-preserved c =
    says_item (name_text c.args.live.now c.args.named.now) c.args.labels.now c.loop-place.place c.index-labels-place.result c.args.out.now c.loop-place.out c.put_name_at.new.out
    c.loop-place-test.true c.index-labels-place.is c.loop-place.invariant c.put_name_at.ensures
