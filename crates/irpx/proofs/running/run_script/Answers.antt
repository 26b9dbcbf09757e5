-- One closure more is added, which answers as the script tells, and at the end the store has the tables of the script
-- but for the drivers, and all its closures answer so.
use Rattle.std.proofs.Common.{◌≡◌, List, [], true, get_or, ap, sym, subst, ◌∙◌}
use Rattle.std.specs.List.{AllZip}
use Rattle.irp_types.specs.State.{Tables}
use Rattle.irp_types.specs.declared.answer.CancelAnswer.{CancelAnswer}
use Rattle.irp_types.specs.declared.answer.Plan.{Plan}
use Rattle.irp_types.specs.declared.answer.Plan.TheVariants as plan
use Rattle.irp_types.specs.declared.routine.Known.{Known}
use Rattle.irp_routines.specs.Tables.{no_tables, with_cancel, with_dispatch, with_routine}
use Rattle.irp_script_reader.specs.Plans.{names_known}
use Rattle.irp_script_reader.specs.Sound.{IsPlan, known_of}
use Rattle.irp_script_reader.specs.declared.script.CompletionRoutine.{CompletionRoutine}
use Rattle.irp_script_reader.specs.declared.script.ScriptParts.{ScriptParts}
use Rattle.irp_steps.specs.Behaviours.{cancel_rule_of}
use Rattle.irp_script.specs.Told.{CancelsAnswer, CancelsAs, DispatchesPlan, PlansAs, RoutinesAnswer}
use Rattle.irp_script.proofs.Told.{cancels_more, dispatches_more, nothing_told, routines_kept, routines_more}
use Rattle.irpx.specs.Running.{AfterScript, and_cancels, and_dispatches, and_drivers, and_routines}
use Rattle.irp_streams.specs.Streams.{output_of}
use Rattle.irpx.proofs.Adding.{added, all_of, cancels_grow, counts_known, dispatches_grow, holds_at, routines_grow, whole}
use Rattle.irpx.proofs.running.run_script.Goals as goal

pub loop-routine-preserved : goal.loop-routine-preserved
loop-routine-preserved g c = (
  added (λ (routines : List CompletionRoutine). and_routines routines no_tables) (λ (routine : CompletionRoutine) (tables : Tables). with_routine tables routine.rule)
      (routines_grow no_tables) c.as_slice-routines.result.now c.loop-routine.routine-index _ c.loop-routine-test.true
      c.loop-routine.store.tables c.add.new.self.tables c.loop-routine.invariant.0
      (c.in-Ok-add.ensures.added.1 ∙ ap (with_routine c.loop-routine.store.tables) c.routine_told.ensures.rule),
  (λ before.
      routines_more c.loop-routine.store c.add.new.self c.routine_told.result c.as_slice-routines.result.now c.loop-routine.routine-index _ c.loop-routine-test.true
      c.routine_told.ensures.rule c.routine_told.ensures.told c.in-Ok-add.ensures.shelves (c.loop-routine.invariant.1 before)),
  (λ before. subst (λ given. AllZip CancelsAs given []) (sym c.add.ensures.others.0) (c.loop-routine.invariant.2 before)),
  (λ before. subst (λ given. AllZip PlansAs given []) (sym c.add.ensures.others.1) (c.loop-routine.invariant.3 before)),
)

pub loop-answer-preserved : goal.loop-answer-preserved
loop-answer-preserved g c =
    let others = c.add_cancel.ensures.others in (
      added (λ (answers : List CancelAnswer). and_cancels answers c.loop-routine.store.tables) (λ (answer : CancelAnswer) (tables : Tables). with_cancel tables (cancel_rule_of answer))
          (cancels_grow c.loop-routine.store.tables) c.as_slice-answers.result.now c.loop-answer.answer-index _ c.loop-answer-test.true
          c.loop-answer.store.tables c.add_cancel.new.self.tables c.loop-answer.invariant.0
          (c.in-Ok-add_cancel.ensures.added.1 ∙ ap (with_cancel c.loop-answer.store.tables) c.cancel_told.ensures.rule),
      (λ told before.
          routines_kept c.loop-answer.store c.add_cancel.new.self told others.0 others.1 others.2 others.3 others.4
          (c.loop-answer.invariant.1 told before)),
      (λ before.
          cancels_more c.loop-answer.store.cancels.items c.add_cancel.new.self.cancels.items c.cancel_told.result
          c.as_slice-answers.result.now c.loop-answer.answer-index _ c.loop-answer-test.true c.cancel_told.ensures.told
          c.in-Ok-add_cancel.ensures.put (c.loop-answer.invariant.2 before)),
      (λ before. subst (λ given. AllZip PlansAs given []) (sym others.5) (c.loop-answer.invariant.3 before)),
    )

pub loop-plan-preserved : goal.loop-plan-preserved
loop-plan-preserved g c =
    let start : Tables = c.loop-answer.store.tables in
    let others = c.add_dispatch.ensures.others in (
      added (λ (plans : List Plan). and_dispatches plans start) (λ (each : Plan) (tables : Tables). with_dispatch tables start.counts)
          (dispatches_grow start) c.as_slice-plans.result.now c.loop-plan.plan-index plan.Skip c.loop-plan-test.true
          c.loop-plan.store.tables c.add_dispatch.new.self.tables c.loop-plan.invariant.0
          (c.in-Ok-add_dispatch.ensures.added.1 ∙ ap (with_dispatch c.loop-plan.store.tables) (c.dispatch_told.ensures.known ∙ (c.counts-known.ensures ∙ ap (λ (tables : Tables). tables.counts) c.tables.ensures))),
      (λ told before.
          routines_kept c.loop-plan.store c.add_dispatch.new.self told others.0 others.1 others.2 others.3 others.4
          (c.loop-plan.invariant.1 told before)),
      (λ told before. subst (λ given. AllZip CancelsAs given told) (sym others.5) (c.loop-plan.invariant.2 told before)),
      (λ before.
          dispatches_more c.loop-plan.store.dispatches.items c.add_dispatch.new.self.dispatches.items c.dispatch_told.result
          c.as_slice-plans.result.now c.loop-plan.plan-index _ c.loop-plan-test.true c.dispatch_told.ensures.told
          c.in-Ok-add_dispatch.ensures.put (c.loop-plan.invariant.3 before)),
    )

pub invariant_of-planned : goal.invariant_of-planned
invariant_of-planned g c =
    let none : Plan = plan.Finish (record { 0 = 0 }) 0 in
    let script : ScriptParts = c.args.script.now in
    let routines : c.loop-routine.store.tables ≡ and_routines script.completions no_tables =
    all_of (λ (routines : List CompletionRoutine). and_routines routines no_tables) _ _ (c.as_slice-routines.ensures ∙ ap (λ (parts : ScriptParts). parts.completions) c.parts-parts.ensures.parts) c.loop-routine.routine-index c.loop-routine-test.false c.loop-routine.store.tables c.loop-routine.invariant.0 in
    let cancels : c.loop-answer.store.tables ≡ and_cancels script.cancels c.loop-routine.store.tables =
    all_of (λ (answers : List CancelAnswer). and_cancels answers c.loop-routine.store.tables) _ _ (c.as_slice-answers.ensures ∙ ap (λ (parts : ScriptParts). parts.cancels) c.parts-parts.ensures.parts) c.loop-answer.answer-index c.loop-answer-test.false c.loop-answer.store.tables c.loop-answer.invariant.0 in
    let known : c.counts-known.result ≡ known_of script =
    c.counts-known.ensures ∙ (ap (λ (tables : Tables). tables.counts) (c.tables.ensures ∙ (cancels ∙ ap (and_cancels script.cancels) routines)) ∙ counts_known script) in
    let plans : IsPlan script.form (known_of script) (get_or c.as_slice-plans.result.now c.loop-plan.plan-index none) =
    holds_at (IsPlan script.form (known_of script)) _ _ c.loop-plan.plan-index none (c.as_slice-plans.ensures ∙ ap (λ (parts : ScriptParts). parts.dispatches) c.parts-parts.ensures.parts) c.parts-parts.ensures.sound.dispatches c.loop-plan-test.true in
    record {
      sound = plans.1;
      named = subst (λ (counts : Known). names_known counts (get_or c.as_slice-plans.result.now c.loop-plan.plan-index none) ≡ true) (sym known) plans.2;
    }

pub run_with_store-requires-after_bounds : goal.run_with_store-requires-after_bounds
run_with_store-requires-after_bounds g c = λ _ _.
    let start = nothing_told c.new-store.result c.new-store.ensures in
    let routines = c.loop-routine.invariant.1 start.0 in
    let cancels = c.loop-answer.invariant.2 (c.loop-routine.invariant.2 start.1) in
    let dispatches = c.loop-plan.invariant.3 (c.loop-answer.invariant.3 (c.loop-routine.invariant.3 start.2)) in (
      subst (RoutinesAnswer c.loop-plan.store) (whole _ _ c.as_slice-routines.ensures c.loop-routine.routine-index c.loop-routine-test.false)
          (c.loop-plan.invariant.1 _ (c.loop-answer.invariant.1 _ routines)),
      subst (CancelsAnswer c.loop-plan.store) (whole _ _ c.as_slice-answers.ensures c.loop-answer.answer-index c.loop-answer-test.false)
          (c.loop-plan.invariant.2 _ cancels),
      subst (DispatchesPlan c.loop-plan.store) (whole _ _ c.as_slice-plans.ensures c.loop-plan.plan-index c.loop-plan-test.false)
          dispatches,
    )

pub returns : goal.returns
returns g c =
    let script : ScriptParts = c.args.script.now in
    let routines : c.loop-routine.store.tables ≡ and_routines script.completions no_tables =
    all_of (λ (routines : List CompletionRoutine). and_routines routines no_tables) _ _ (c.as_slice-routines.ensures ∙ ap (λ (parts : ScriptParts). parts.completions) c.parts-parts.ensures.parts) c.loop-routine.routine-index c.loop-routine-test.false c.loop-routine.store.tables c.loop-routine.invariant.0 in
    let cancels : c.loop-answer.store.tables ≡ and_cancels script.cancels c.loop-routine.store.tables =
    all_of (λ (answers : List CancelAnswer). and_cancels answers c.loop-routine.store.tables) _ _ (c.as_slice-answers.ensures ∙ ap (λ (parts : ScriptParts). parts.cancels) c.parts-parts.ensures.parts) c.loop-answer.answer-index c.loop-answer-test.false c.loop-answer.store.tables c.loop-answer.invariant.0 in
    let dispatches : c.loop-plan.store.tables ≡ and_dispatches script.dispatches c.loop-answer.store.tables =
    all_of (λ (plans : List Plan). and_dispatches plans c.loop-answer.store.tables) _ _ (c.as_slice-plans.ensures ∙ ap (λ (parts : ScriptParts). parts.dispatches) c.parts-parts.ensures.parts) c.loop-plan.plan-index c.loop-plan-test.false c.loop-plan.store.tables c.loop-plan.invariant.0 in
    let after : (parts : ScriptParts) → Tables → Type 0 = λ parts tables.
    AfterScript c.args.workers.number parts (and_drivers parts.drivers tables) (output_of (g.O.Out.gone c.args.output.now) (g.O.Out.failures c.args.output.now)) (output_of (g.O.Out.gone c.run_with_store.new.output) (g.O.Out.failures c.run_with_store.new.output)) c.run_with_store.result in
    subst (after script) (dispatches ∙ ap (and_dispatches script.dispatches) (cancels ∙ ap (and_cancels script.cancels) routines))
    (subst (λ (parts : ScriptParts). after parts c.loop-plan.store.tables) c.parts-parts.ensures.parts c.run_with_store.ensures)
