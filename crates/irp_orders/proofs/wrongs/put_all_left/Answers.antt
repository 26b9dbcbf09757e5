use Rattle.irp_orders.specs.Wrongs.{left_line}
use Rattle.irp_orders.proofs.Numbering.{says_more}
use Rattle.irp_orders.proofs.wrongs.put_all_left.Goals as goal

pub loop-live-preserved : goal.loop-live-preserved
loop-live-preserved c =
    says_more (left_line c.args.labels.now c.args.named.now) c.args.packets.now c.loop-live.live-index c.live-item.result c.args.out.now c.loop-live.out
    c.put_left.new.out c.loop-live-test.true c.live-item.is c.loop-live.invariant c.put_left.ensures
