use Rattle.std.proofs.Common.{List, sym, subst}
use Rattle.irp_machine.specs.Orders.{AreOutcomesOf}
use Rattle.irp_machine.specs.declared.outcome.Outcome.{Outcome}
use Rattle.irp_orders.specs.Exploring.{tells}
use Rattle.irp_orders.proofs.Ranking.{outcomes_permuted}
use Rattle.irp_orders.proofs.exploring.founds_of.Goals as goal

pub returns-clause-outcomes : goal.returns-clause-outcomes
returns-clause-outcomes c =
    subst (λ (outcomes : List Outcome). AreOutcomesOf c.args.script.now (tells c.args.order.now) outcomes)
    (sym c.in_ok-founds.ensures.outcomes)
    (outcomes_permuted c.args.script.now (tells c.args.order.now) _ _ c.in_ok-outcomes-2.ensures c.in_ok-outcomes.ensures.outcomes)
