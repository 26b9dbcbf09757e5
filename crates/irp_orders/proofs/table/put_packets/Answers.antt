use Rattle.irp_orders.specs.Ends.{packet_lines}
use Rattle.irp_orders.proofs.Numbering.{says_more}
use Rattle.irp_orders.proofs.table.put_packets.Goals as goal

pub loop-live-preserved : goal.loop-live-preserved
loop-live-preserved c =
    says_more (packet_lines c.args.columns.now.facts c.args.columns.now.labels.now c.args.named.now) c.args.packets.now c.loop-live.live-index c.live-item.result c.args.out.now c.loop-live.out
    c.put_packet.new.out c.loop-live-test.true c.live-item.is c.loop-live.invariant c.put_packet.ensures
