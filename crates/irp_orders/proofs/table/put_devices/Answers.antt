use Rattle.irp_orders.specs.Table.{told_device_line}
use Rattle.irp_orders.proofs.Numbering.{says_next}
use Rattle.irp_orders.proofs.table.put_devices.Goals as goal

pub loop-number-preserved : goal.loop-number-preserved
loop-number-preserved c =
    says_next (told_device_line c.args.columns.now) c.args.devices.now c.loop-number.number _ c.args.out.now c.loop-number.out c.put_device_if.new.out
    c.loop-number-test.true c.loop-number.invariant c.put_device_if.ensures
