use Rattle.irp_orders.specs.Table.{told_lock_line}
use Rattle.irp_orders.proofs.Numbering.{says_item}
use Rattle.irp_orders.proofs.table.put_locks.Goals as goal

pub loop-number-preserved : goal.loop-number-preserved
loop-number-preserved c =
    says_item (told_lock_line c.args.columns.now) c.args.locks.now c.loop-number.number c.index-locks-number.result c.args.out.now c.loop-number.out c.put_lock_if.new.out
    c.loop-number-test.true c.index-locks-number.is c.loop-number.invariant c.put_lock_if.ensures
