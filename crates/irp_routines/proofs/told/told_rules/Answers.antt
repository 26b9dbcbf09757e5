use Rattle.irp_routines.proofs.Taking.{one_taken}
use Rattle.irp_routines.proofs.told.told_rules.Goals as goal

pub loop-number-preserved : goal.loop-number-preserved
loop-number-preserved g c =
    one_taken (g.A.Ask.tables c.args.ask.now).cancel_rules _ _ c.loop-number.number c.cancel_rule.result c.cancel_rule.ensures c.loop-number.invariant c.in_ok-push.ensures.items
