use Rattle.std.proofs.Common.{List, subst}
use Rattle.std.proofs.lemmas.Result.{IfErr-weaker, IfOk-weaker}
use Rattle.irp_orders.specs.Judging.{IsTold}
use Rattle.irp_orders.specs.Exploring.{tells}
use Rattle.irp_orders.specs.Program.{IsUnjudged, IsUnsaid, Judges, TellsHolding, TellsNever}
use Rattle.irp_orders.specs.declared.found.Found.{Found}
use Rattle.irp_orders.proofs.Programs.{told_judges}
use Rattle.irp_orders.proofs.Showing.{unjudged_judges}
use Rattle.irp_orders.proofs.Uttering.{unexplored_unsaid, unjudged_unsaid}
use Rattle.irp_orders.proofs.answering.explore_and_judge.Goals as goal

pub returns-in-Ok-clause-told : goal.returns-in-Ok-clause-told
returns-in-Ok-clause-told c =
    let script = c.args.script.now in
    let order = c.args.order.now in
    let text = c.args.text.now in
    IfOk-weaker c.judge.result (λ told. IsTold script (tells order) text c.as_slice.result.now told.1)
    (λ told. Judges script order text told.1)
    (λ told is.
    told_judges script order text c.in-Ok.founds.items told.1 c.in-Ok.ensures.outcomes
    (subst (λ (founds : List Found). IsTold script (tells order) text founds told.1) c.as_slice.ensures.value is))
    c.judge.ensures.told

pub returns-in-Ok-clause-untold : goal.returns-in-Ok-clause-untold
returns-in-Ok-clause-untold c =
    let script = c.args.script.now in
    let order = c.args.order.now in
    let text = c.args.text.now in
    IfErr-weaker c.judge.result (λ ending. IsUnjudged script (tells order) text c.as_slice.result.now ending)
    (λ ending. Judges script order text ending)
    (λ ending unjudged.
    unjudged_judges script order text c.in-Ok.founds.items ending c.in-Ok.ensures.outcomes c.paths_can_be_made.ensures
    (subst (λ (founds : List Found). IsUnjudged script (tells order) text founds ending) c.as_slice.ensures.value unjudged))
    c.judge.ensures.unjudged

pub returns-in-Ok-clause-tells : goal.returns-in-Ok-clause-tells
returns-in-Ok-clause-tells c =
    let script = c.args.script.now in
    let order = c.args.order.now in
    let text = c.args.text.now in
    let founds = c.in-Ok.founds.items in
    IfOk-weaker c.judge.result (λ told. TellsHolding script (tells order) text c.as_slice.result.now told.0.items told.1)
    (λ told. TellsNever script order text told.0.items told.1)
    (λ told is. (
      founds,
      record { outcomes = c.in-Ok.ensures.outcomes; own = c.in-Ok.ensures.own; answered = c.in-Ok.ensures.answered },
      subst (λ (founds : List Found). TellsHolding script (tells order) text founds told.0.items told.1) c.as_slice.ensures.value is,
    ))
    c.judge.ensures.tells

pub returns-in-Ok-clause-unsaid : goal.returns-in-Ok-clause-unsaid
returns-in-Ok-clause-unsaid c =
    let script = c.args.script.now in
    let told = tells c.args.order.now in
    let text = c.args.text.now in
    let founds = c.as_slice.result.now in
    IfErr-weaker c.judge.result (λ ending. IsUnjudged script told text founds ending) (λ ending. IsUnsaid ending)
    (λ ending unjudged. unjudged_unsaid script told text founds ending unjudged) c.judge.ensures.unjudged

pub returns-in-Err-clause-unsaid : goal.returns-in-Err-clause-unsaid
returns-in-Err-clause-unsaid c = unexplored_unsaid c.args.script.now c.args.order.now c.in-Err.ending c.in-Err.ensures.met
