use Rattle.std.proofs.Common.{◌≡◌, ◌+◌, ℕ, Bool, List, get_or, length, sym, ap, subst, ◌∙◌, arith}
use Rattle.std.proofs.lemmas.Result.{err_from_is_err_and}
use Rattle.irp_transcript.specs.Headers.{IsHeader}
use Rattle.irp_transcript.specs.declared.header.Header.{Header}
use Rattle.irp_explore.specs.Counted.{HasManyOrders}
use Rattle.irp_explore.specs.Nodes.{HasMoreStates, HasOrderOf}
use Rattle.irp_explore.specs.Orders.{Moves}
use Rattle.irp_script_reader.specs.Sound.{IsSound}
use Rattle.irp_script_reader.specs.declared.act.Step.{Step}
use Rattle.irp_script_reader.specs.declared.script.ScriptParts.{ScriptParts}
use Rattle.irp_machine.specs.Headers.{IsHeaderOf}
use Rattle.irp_machine.specs.Limits.{tells_replies}
use Rattle.irp_machine.specs.Machine.{RulesValue, PlaceSteps, place_mark}
use Rattle.irp_machine.specs.Openings.{Opens, rules_of}
use Rattle.irp_machine.specs.Orders.{AreOutcomes, AreOutcomesOf, HasMoreEnds, IsMet}
use Rattle.irp_machine.specs.Standings.{StandingValue}
use Rattle.irp_machine.specs.declared.place.Place.{Place}
use Rattle.irp_machine.specs.declared.place.Place.TheVariants.{Running}
use Rattle.irp_machine.proofs.Accepted.{header_accepted}
use Rattle.irp_machine.proofs.Outcomes.{closed_of, outcomes_hold, tell_long}
use Rattle.irp_machine.proofs.exploring.orders.Goals as goal

-- the rules by which a machine was made
ruled : (header : Header) (script : ScriptParts) (machine : RulesValue) (steps : List Step) (shown tells : Bool)
    → machine ≡ rules_of header script steps steps shown → steps ≡ script.steps → shown ≡ tells → machine ≡ rules_of header script script.steps script.steps tells
ruled header script machine steps shown tells made steps_are shown_is =
    made ∙ ap (λ (steps : List Step). rules_of header script steps steps shown) steps_are
    ∙ ap (λ (tells : Bool). rules_of header script script.steps script.steps tells) shown_is

-- a bound that a machine's orders meet is one that the script's orders meet
met_by : (script own : ScriptParts) (header : Header) (machine : RulesValue) (start : StandingValue) (steps : List Step) (shown tells : Bool) (bound : Moves Place → ℕ → Place → Type 0)
    → script ≡ own → IsSound own → IsHeaderOf script header → Opens header script start → machine ≡ rules_of header script steps steps shown
    → steps ≡ script.steps → shown ≡ tells → bound (PlaceSteps machine) (length machine.acts + 1) (Running start) → IsMet own tells bound
met_by script own header machine start steps shown tells bound same sound headed opens made steps_are shown_is met =
    let whole : IsMet script tells bound = record {
      header = header;
      headed = headed;
      accepted = header_accepted script header (subst (λ (script : ScriptParts). IsSound script) (sym same) sound) headed;
      start = start;
      opens = opens;
      met =
          subst (λ (rules : RulesValue). bound (PlaceSteps rules) (length rules.acts + 1) (Running start))
          (ruled header script machine steps shown tells made steps_are shown_is) met;
    } in
    subst (λ (script : ScriptParts). IsMet script tells bound) same whole

pub outcomes_of-requires : goal.outcomes_of-requires
outcomes_of-requires c = λ k d low.
    closed_of c.in_ok-machine.machine c.in_ok-standing.standing (get_or c.in_ok-found.found.items k d) (c.in_ok-found.ensures.orders.sound k d low)

pub returns-clause-outcomes : goal.returns-clause-outcomes
returns-clause-outcomes c =
    let header = c.in_ok-header.header in
    let script = c.parts-script.result.now in
    let sound = subst (λ (script : ScriptParts). IsSound script) (sym c.parts-script.ensures.parts) c.parts-script.ensures.sound in
    let accepted : IsHeader header = header_accepted script header sound c.in_ok-header.ensures in
    let start = c.in_ok-standing.standing in
    let outcomes = c.in_ok-outcomes.outcomes.items in
    let tells = tells_replies c.args.compared in
    let rules = ruled header script c.in_ok-machine.machine c.as_slice-steps.result.now c.tells.result tells c.in_ok-machine.ensures.machine c.as_slice-steps.ensures c.tells.ensures in
    let whole = outcomes_hold c.in_ok-machine.machine start c.in_ok-found.found.items outcomes c.in_ok-found.ensures.orders c.in_ok-outcomes.ensures in
    let made : AreOutcomesOf script tells outcomes = record {
      header = header;
      headed = c.in_ok-header.ensures;
      accepted = accepted;
      start = start;
      opens = c.in_ok-standing.ensures;
      whole = subst (λ (rules : RulesValue). AreOutcomes rules start outcomes) rules whole;
    } in
    subst (λ (script : ScriptParts). AreOutcomesOf script tells outcomes) c.parts-script.ensures.parts made

pub returns-clause-few : goal.returns-clause-few
returns-clause-few c =
    let long = tell_long c.in_ok-found.found.items c.in_ok-outcomes.outcomes.items c.in_ok-outcomes.ensures in
    omega (arith, long, c.in_ok-found.ensures.few)

pub returns-in_err-found-clause-too_long : goal.returns-in_err-found-clause-too_long
returns-in_err-found-clause-too_long c =
    let p = err_from_is_err_and c.from_residual-in_err-found.result c.from_residual-in_err-found.ensures.1 in
    rw p.1 (λ same.
    met_by c.parts-script.result.now c.args.script.now c.in_ok-header.header c.in_ok-machine.machine c.in_ok-standing.standing c.as_slice-steps.result.now c.tells.result
    (tells_replies c.args.compared) (λ moves seats start. HasOrderOf moves seats start c.args.limits.steps)
    c.parts-script.ensures.parts c.parts-script.ensures.sound c.in_ok-header.ensures c.in_ok-standing.ensures c.in_ok-machine.ensures.machine c.as_slice-steps.ensures c.tells.ensures
    (c.in_err-found.ensures.too_long (sym p.2 ∙ same)))

pub returns-in_err-found-clause-too_many : goal.returns-in_err-found-clause-too_many
returns-in_err-found-clause-too_many c =
    let p = err_from_is_err_and c.from_residual-in_err-found.result c.from_residual-in_err-found.ensures.1 in
    rw p.1 (λ same.
    met_by c.parts-script.result.now c.args.script.now c.in_ok-header.header c.in_ok-machine.machine c.in_ok-standing.standing c.as_slice-steps.result.now c.tells.result
    (tells_replies c.args.compared) (λ moves seats start. HasMoreStates moves seats place_mark start c.args.limits.states)
    c.parts-script.ensures.parts c.parts-script.ensures.sound c.in_ok-header.ensures c.in_ok-standing.ensures c.in_ok-machine.ensures.machine c.as_slice-steps.ensures c.tells.ensures
    (c.in_err-found.ensures.too_many (sym p.2 ∙ same)))

pub returns-in_err-found-clause-too_many_orders : goal.returns-in_err-found-clause-too_many_orders
returns-in_err-found-clause-too_many_orders c =
    let p = err_from_is_err_and c.from_residual-in_err-found.result c.from_residual-in_err-found.ensures.1 in
    rw p.1 (λ same.
    met_by c.parts-script.result.now c.args.script.now c.in_ok-header.header c.in_ok-machine.machine c.in_ok-standing.standing c.as_slice-steps.result.now c.tells.result
    (tells_replies c.args.compared) (λ moves seats start. HasManyOrders moves seats start)
    c.parts-script.ensures.parts c.parts-script.ensures.sound c.in_ok-header.ensures c.in_ok-standing.ensures c.in_ok-machine.ensures.machine c.as_slice-steps.ensures c.tells.ensures
    (c.in_err-found.ensures.too_many_orders (sym p.2 ∙ same)))

pub returns-in_err-found-clause-too_many_ends : goal.returns-in_err-found-clause-too_many_ends
returns-in_err-found-clause-too_many_ends c =
    let p = err_from_is_err_and c.from_residual-in_err-found.result c.from_residual-in_err-found.ensures.1 in
    rw p.1 (λ same.
    met_by c.parts-script.result.now c.args.script.now c.in_ok-header.header c.in_ok-machine.machine c.in_ok-standing.standing c.as_slice-steps.result.now c.tells.result
    (tells_replies c.args.compared) (λ moves seats start. HasMoreEnds moves seats start c.args.limits.outcomes)
    c.parts-script.ensures.parts c.parts-script.ensures.sound c.in_ok-header.ensures c.in_ok-standing.ensures c.in_ok-machine.ensures.machine c.as_slice-steps.ensures c.tells.ensures
    (c.in_err-found.ensures.too_many_ends (sym p.2 ∙ same)))
