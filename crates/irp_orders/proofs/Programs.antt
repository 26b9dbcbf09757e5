-- How the program ends by what was judged.
use Rattle.std.proofs.Common.{◌≡◌, ◌<◌, ◌∙◌, ◌⊎◌, inl, inr, ℕ, Bool, List, Option, Some, None, length, ap, refl, sym, subst, arith, Contains}
use Rattle.std.specs.Prelude.{⊤, slice_get, Err}
use Rattle.std.proofs.lemmas.List.{length-map, get_or-map}
use Rattle.std.proofs.lemmas.List.Elements.{All-map, Contains-get_or}
use Rattle.std.proofs.lemmas.Option.{get_or_from_slice_get, slice_get_within}
use Rattle.irp_condition.specs.Faults.{Gives, Found as Sought, found as sought, missing}
use Rattle.irp_condition.specs.Formulas.{Formula, formula_of}
use Rattle.irp_condition.specs.Grammar.{TextSays}
use Rattle.irp_condition.specs.declared.condition.Condition.{Condition}
use Rattle.irp_condition.specs.declared.fault.Unread.{Unread}
use Rattle.irp_condition.specs.declared.fault.Unread.TheVariants as unread
use Rattle.irp_condition.specs.declared.scope.Scope.{Scope}
use Rattle.irp_explore.specs.Counted.{HasManyOrders}
use Rattle.irp_explore.specs.Nodes.{HasMoreStates, HasOrderOf}
use Rattle.irp_machine.specs.Machine.{place_mark}
use Rattle.irp_machine.specs.Orders.{AreOutcomesOf, HasMoreEnds, IsMet}
use Rattle.irp_machine.specs.declared.limits.NotFound.{NotFound}
use Rattle.irp_machine.specs.declared.limits.NotFound.TheVariants as found
use Rattle.irp_machine.specs.declared.outcome.Outcome.{Outcome}
use Rattle.irp_script_reader.specs.declared.script.ScriptParts.{ScriptParts}
use Rattle.irp_orders.specs.Conditions.{IsScopeOf, Says}
use Rattle.irp_orders.specs.Ending.{of_unfound, of_unheard, of_unread}
use Rattle.irp_orders.specs.Facts.{Meets}
use Rattle.irp_orders.specs.Founds.{outcomes_of}
use Rattle.irp_orders.specs.Judging.{IsBreach, IsTold, IsVerdict, verdict_ending}
use Rattle.irp_orders.specs.Exploring.{IsUnexplored, most_steps, tells}
use Rattle.irp_orders.specs.Program.{Explores, ExploresWords, IsAnswered, IsFaulty, IsGivenUp, IsInput, IsRefused, IsToldOfWords, IsUnread, Judges}
use Rattle.irp_orders.specs.declared.asked.Order.{Order}
use Rattle.irp_orders.specs.declared.ending.Ending.{Ending}
use Rattle.irp_orders.specs.declared.found.Found.{Found}
use Rattle.irp_streams.specs.declared.reading.StreamFault.{StreamFault}
use Rattle.irp_streams.specs.declared.reading.StreamFault.TheVariants as stream

-- ---- conditions

pub says_of : (script : ScriptParts) (tells : Bool) (text : List ℕ) (condition : Condition) (scope : Scope)
    → IsScopeOf script tells scope → TextSays scope text (formula_of condition) → Says script tells text condition
says_of script tells text condition scope of_script said = record { scope = scope; of_script = of_script; said = said }

-- what was looked for is there
abbrev IsThere : Sought Formula → Type 0
IsThere (sought formula) = ⊤
IsThere (missing fault) = ⊥

pub unread_of : (script : ScriptParts) (tells : Bool) (text : List ℕ) (unread : Unread) (scope : Scope) → IsScopeOf script tells scope
    → ((formula : Formula) → TextSays scope text formula → Gives formula_of (Err unread) (sought formula))
    → IsUnread script tells text (of_unread unread)
unread_of script tells text (unread.Fault fault) scope of_script whole = record {
  scope = scope;
  of_script = of_script;
  nothing = λ formula says. subst IsThere (whole formula says) tt;
}
unread_of script tells text unread.NoMemory scope of_script whole = tt

-- ---- exploring

pub unexplored_of : (script : ScriptParts) (order : Order) (told : Bool) (refusal : NotFound) → told ≡ tells order
    → (refusal ≡ found.Steps → IsMet script told (λ moves seats start. HasOrderOf moves seats start most_steps))
    → (refusal ≡ found.States → IsMet script told (λ moves seats start. HasMoreStates moves seats place_mark start order.states))
    → (refusal ≡ found.Orders → IsMet script told (λ moves seats start. HasManyOrders moves seats start))
    → (refusal ≡ found.Outcomes → IsMet script told (λ moves seats start. HasMoreEnds moves seats start order.outcomes))
    → IsUnexplored script order (of_unfound refusal)
unexplored_of script order told found.Memory same steps states orders ends = tt
unexplored_of script order told found.States same steps states orders ends =
    subst
    (λ (told : Bool). IsMet script told (λ moves seats start. HasMoreStates moves seats place_mark start order.states))
    same (states refl)
unexplored_of script order told found.Outcomes same steps states orders ends =
    subst (λ (told : Bool). IsMet script told (λ moves seats start. HasMoreEnds moves seats start order.outcomes)) same
    (ends refl)
unexplored_of script order told found.Steps same steps states orders ends =
    subst (λ (told : Bool). IsMet script told (λ moves seats start. HasOrderOf moves seats start most_steps)) same
    (steps refl)
unexplored_of script order told found.Orders same steps states orders ends =
    subst (λ (told : Bool). IsMet script told (λ moves seats start. HasManyOrders moves seats start)) same (orders refl)

-- ---- judging

pub contained : (founds : List Found) (place : ℕ) (found : Found) → slice_get founds place ≡ Some found
    → Contains (outcomes_of founds) found.outcome
contained founds place found at =
    let outcome : Found → Outcome = λ (found : Found). found.outcome in
    let low = slice_get_within founds place found at in
    let long = length-map founds outcome in
    let within : place < length (outcomes_of founds) = omega (arith, low, long) in
    subst (λ (one : Outcome). Contains (outcomes_of founds) one)
    (get_or-map outcome founds place found found.outcome low ∙ ap outcome (get_or_from_slice_get founds place found found at))
    (Contains-get_or (outcomes_of founds) place found.outcome within)

judged_by : (script : ScriptParts) (order : Order) (text : List ℕ) (founds : List Found) (condition : Condition) (shown : Option ℕ)
    → AreOutcomesOf script (tells order) (outcomes_of founds) → Says script (tells order) text condition
    → IsVerdict (IsBreach script.steps condition) founds shown → Judges script order text (verdict_ending shown)
judged_by script order text founds condition None are says none = (
  outcomes_of founds,
  condition,
  record { outcomes_are = are; says = says },
  All-map (λ (outcome : Outcome). Meets script.steps condition outcome.end → ⊥) (λ (found : Found). found.outcome) founds none,
)
judged_by script order text founds condition (Some place) are says best = (
  outcomes_of founds,
  condition,
  best.0.outcome,
  record { outcomes_are = are; says = says },
  contained founds place best.0 best.1,
  best.2.breach,
)

pub told_judges : (script : ScriptParts) (order : Order) (text : List ℕ) (founds : List Found) (ending : Ending)
    → AreOutcomesOf script (tells order) (outcomes_of founds) → IsTold script (tells order) text founds ending
    → Judges script order text ending
told_judges script order text founds ending are told =
    subst (λ (ending : Ending). Judges script order text ending) (sym told.judged.ends)
    (judged_by script order text founds told.condition told.judged.shown are told.says told.judged.verdict)

-- ---- the whole

pub unheard_up : (fault : StreamFault) → IsGivenUp (of_unheard fault)
unheard_up stream.Failed = tt
unheard_up stream.NoMemory = tt

pub explored_by : (order : Order) (left rest old new : Option (List ℕ)) (text : List ℕ) (ending : Ending) → IsInput left rest text
    → IsGivenUp ending ⊎ (IsRefused text ending ⊎ IsAnswered order text old new ending) → Explores order left rest old new ending
explored_by order left rest old new text ending input (inl given) = inl given
explored_by order left rest old new text ending input (inr told) = inr (text, input, told)

-- words in the input: their faults are told, or what is asked of the script that they say is answered
pub explored_of_words : (order : Order) (left rest old new : Option (List ℕ)) (text : List ℕ) (ending : Ending)
    → IsInput left rest text → IsFaulty ending ⊎ IsToldOfWords order text old new ending
    → ExploresWords order left rest old new ending
explored_of_words order left rest old new text ending input told = inr (text, input, told)
