use Rattle.irp_orders.specs.Wrongs.{held_line}
use Rattle.irp_orders.proofs.Numbering.{says_item}
use Rattle.irp_orders.proofs.wrongs.put_all_held.Goals as goal

pub loop-number-preserved : goal.loop-number-preserved
loop-number-preserved c =
    says_item held_line c.args.locks.now c.loop-number.number c.index-locks-number.result c.args.out.now c.loop-number.out c.put_held.new.out
    c.loop-number-test.true c.index-locks-number.is c.loop-number.invariant c.put_held.ensures
