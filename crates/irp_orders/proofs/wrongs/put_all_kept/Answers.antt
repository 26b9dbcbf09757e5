use Rattle.irp_orders.specs.Wrongs.{kept_line}
use Rattle.irp_orders.proofs.Numbering.{says_more}
use Rattle.irp_orders.proofs.wrongs.put_all_kept.Goals as goal

pub loop-live-preserved : goal.loop-live-preserved
loop-live-preserved c =
    says_more (kept_line c.args.labels.now c.args.named.now) c.args.packets.now c.loop-live.live-index c.live-item.result c.args.out.now c.loop-live.out
    c.put_kept.new.out c.loop-live-test.true c.live-item.is c.loop-live.invariant c.put_kept.ensures
