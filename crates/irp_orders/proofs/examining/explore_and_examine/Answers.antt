use Rattle.std.proofs.Common.{List, subst}
use Rattle.std.proofs.lemmas.Result.{IfErr-weaker, IfOk-weaker}
use Rattle.irp_machine.specs.Orders.{AreOutcomesOf}
use Rattle.irp_orders.specs.Exploring.{tells}
use Rattle.irp_orders.specs.Founds.{outcomes_of}
use Rattle.irp_orders.specs.Judging.{IsExamined}
use Rattle.irp_orders.specs.Program.{Examines, IsUnsaid, IsUntold, TellsExamined, TellsRight}
use Rattle.irp_orders.specs.declared.asked.Order.{Order}
use Rattle.irp_orders.specs.declared.found.Found.{Found}
use Rattle.irp_orders.proofs.Righting.{examined_examines}
use Rattle.irp_orders.proofs.Showing.{untold_examines}
use Rattle.irp_orders.proofs.Uttering.{unexplored_unsaid, untold_unsaid}
use Rattle.irp_orders.proofs.examining.explore_and_examine.Goals as goal

pub returns-in-Ok-clause-told : goal.returns-in-Ok-clause-told
returns-in-Ok-clause-told c =
    let script = c.args.script.now in
    let order = c.args.order.now in
    let founds = c.in-Ok.founds.items in
    let outcomes =
    subst (λ (order : Order). AreOutcomesOf c.args.script.now (tells order) (outcomes_of c.in-Ok.founds.items)) c.with_replies-order.ensures
    c.in-Ok.ensures.outcomes in
    IfOk-weaker c.examined.result (λ told. IsExamined script c.as_slice.result.now told.1) (λ told. Examines script order told.1)
    (λ told is.
    examined_examines script order founds told.1 outcomes
    (subst (λ (founds : List Found). IsExamined script founds told.1) c.as_slice.ensures.value is))
    c.examined.ensures.told

pub returns-in-Ok-clause-untold : goal.returns-in-Ok-clause-untold
returns-in-Ok-clause-untold c =
    let script = c.args.script.now in
    let order = c.args.order.now in
    let founds = c.in-Ok.founds.items in
    let outcomes =
    subst (λ (order : Order). AreOutcomesOf c.args.script.now (tells order) (outcomes_of c.in-Ok.founds.items)) c.with_replies-order.ensures
    c.in-Ok.ensures.outcomes in
    IfErr-weaker c.examined.result (λ ending. IsUntold script c.as_slice.result.now ending) (λ ending. Examines script order ending)
    (λ ending untold.
    untold_examines script order founds ending outcomes c.paths_can_be_made.ensures
    (subst (λ (founds : List Found). IsUntold script founds ending) c.as_slice.ensures.value untold))
    c.examined.ensures.untold

pub returns-in-Ok-clause-tells : goal.returns-in-Ok-clause-tells
returns-in-Ok-clause-tells c =
    let script = c.args.script.now in
    let founds = c.in-Ok.founds.items in
    let outcomes =
    subst (λ (order : Order). AreOutcomesOf c.args.script.now (tells order) (outcomes_of c.in-Ok.founds.items)) c.with_replies-order.ensures
    c.in-Ok.ensures.outcomes in
    IfOk-weaker c.examined.result (λ told. TellsExamined script c.as_slice.result.now told.0.items told.1)
    (λ told. TellsRight script told.0.items told.1)
    (λ told is. (
      founds,
      record { outcomes = outcomes; own = c.in-Ok.ensures.own; answered = c.in-Ok.ensures.answered },
      subst (λ (founds : List Found). TellsExamined script founds told.0.items told.1) c.as_slice.ensures.value is,
    ))
    c.examined.ensures.tells

pub returns-in-Ok-clause-unsaid : goal.returns-in-Ok-clause-unsaid
returns-in-Ok-clause-unsaid c =
    let script = c.args.script.now in
    let founds = c.as_slice.result.now in
    IfErr-weaker c.examined.result (λ ending. IsUntold script founds ending) (λ ending. IsUnsaid ending)
    (λ ending untold. untold_unsaid script founds ending untold) c.examined.ensures.untold

pub returns-in-Err-clause-unsaid : goal.returns-in-Err-clause-unsaid
returns-in-Err-clause-unsaid c = unexplored_unsaid c.args.script.now c.with_replies-order.result c.in-Err.ending c.in-Err.ensures.met
