use Rattle.irp_orders.specs.Wrongs.{refused_line}
use Rattle.irp_orders.proofs.Numbering.{says_next}
use Rattle.irp_orders.proofs.wrongs.put_all_refused.Goals as goal

pub loop-place-preserved : goal.loop-place-preserved
loop-place-preserved c =
    says_next refused_line c.args.answers.now c.loop-place.place _ c.args.out.now c.loop-place.out c.put_refused.new.out
    c.loop-place-test.true c.loop-place.invariant c.put_refused.ensures
