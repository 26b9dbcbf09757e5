use Rattle.irp_orders.specs.Wrongs.{untaken_line}
use Rattle.irp_orders.proofs.Numbering.{says_item}
use Rattle.irp_orders.proofs.wrongs.put_all_untaken.Goals as goal

pub loop-place-preserved : goal.loop-place-preserved
loop-place-preserved c =
    says_item untaken_line c.args.setup.now c.loop-place.place c.index-setup-place.result c.args.out.now c.loop-place.out c.put_untaken.new.out
    c.loop-place-test.true c.index-setup-place.is c.loop-place.invariant c.put_untaken.ensures
