use Rattle.std.proofs.Common.{sym, subst}
use Rattle.irp_orders.specs.Program.{IsUnread}
use Rattle.irp_orders.specs.declared.ending.Ending.{Ending}
use Rattle.irp_orders.proofs.Programs.{says_of, unread_of}
use Rattle.irp_orders.proofs.conditions.condition_of.Goals as goal

pub returns-in-Ok-clause-said : goal.returns-in-Ok-clause-said
returns-in-Ok-clause-said c =
    says_of c.args.script.now c.args.knows_replies c.args.text.now c.in-Ok.condition c.in-Some.scope c.in-Some.ensures.scope
    c.in-Ok.ensures.said

pub returns-clause-unread : goal.returns-clause-unread
returns-clause-unread c =
    subst (λ (ending : Ending). IsUnread c.args.script.now c.args.knows_replies c.args.text.now ending) (sym c.from.ensures)
    (unread_of c.args.script.now c.args.knows_replies c.args.text.now c.in-Err.unread c.in-Some.scope c.in-Some.ensures.scope
    c.in-Err.ensures.whole)
