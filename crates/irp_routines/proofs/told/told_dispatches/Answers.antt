use Rattle.irp_routines.proofs.Taking.{one_taken}
use Rattle.irp_routines.proofs.told.told_dispatches.Goals as goal

pub loop-number-preserved : goal.loop-number-preserved
loop-number-preserved g c =
    one_taken (g.A.Ask.tables c.args.ask.now).dispatches _ _ c.loop-number.number c.known_of.result c.known_of.ensures c.loop-number.invariant c.in_ok-push.ensures.items
