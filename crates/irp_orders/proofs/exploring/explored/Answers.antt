use Rattle.std.proofs.Common.{Bool, sym, subst}
use Rattle.irp_machine.specs.Limits.{tells_replies}
use Rattle.irp_machine.specs.Orders.{AreOutcomesOf}
use Rattle.irp_orders.specs.Exploring.{IsUnexplored}
use Rattle.irp_orders.specs.declared.ending.Ending.{Ending}
use Rattle.irp_orders.proofs.Programs.{unexplored_of}
use Rattle.irp_orders.proofs.exploring.explored.Goals as goal

pub returns-in-Ok-clause-outcomes : goal.returns-in-Ok-clause-outcomes
returns-in-Ok-clause-outcomes c =
    subst (λ (told : Bool). AreOutcomesOf c.args.script.now told c.in-Ok.outcomes.items) c.compared_by.ensures
    c.in-Ok.ensures.outcomes

pub returns-in-Err-clause-met : goal.returns-in-Err-clause-met
returns-in-Err-clause-met c =
    subst (λ (ending : Ending). IsUnexplored c.args.script.now c.args.order.now ending) (sym c.from.ensures)
    (unexplored_of c.args.script.now c.args.order.now (tells_replies c.compared_by.result) c.in-Err.refusal c.compared_by.ensures
    c.in-Err.ensures.too_long c.in-Err.ensures.too_many c.in-Err.ensures.too_many_orders c.in-Err.ensures.too_many_ends)
