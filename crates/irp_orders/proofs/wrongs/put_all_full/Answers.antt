use Rattle.irp_orders.specs.Wrongs.{full_line}
use Rattle.irp_orders.proofs.Numbering.{says_next}
use Rattle.irp_orders.proofs.wrongs.put_all_full.Goals as goal

pub loop-number-preserved : goal.loop-number-preserved
loop-number-preserved c =
    says_next full_line c.args.slots.now c.loop-number.number _ c.args.out.now c.loop-number.out c.put_full.new.out
    c.loop-number-test.true c.loop-number.invariant c.put_full.ensures
