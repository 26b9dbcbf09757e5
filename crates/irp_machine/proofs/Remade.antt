-- A path that was made once can be made again.
use Rattle.std.proofs.Common.{ℕ, Bool, true, false, List, [], ◌∷◌, Option, Some, sym, subst, ◌∙◌, inl, inr}
use Rattle.std.proofs.lemmas.Option.{none-some, same_Some, slice_get_within, get_or_from_slice_get}
use Rattle.irp_transcript.specs.declared.header.Header.{Header}
use Rattle.irp_script_reader.specs.declared.script.ScriptParts.{ScriptParts}
use Rattle.irp_machine.specs.declared.outcome.End.{End}
use Rattle.irp_machine.specs.declared.outcome.Outcome.{Outcome}
use Rattle.irp_machine.specs.declared.parts.Planned.{Planned}
use Rattle.irp_machine.specs.Machine.{RulesValue, StepsTo, act_of}
use Rattle.irp_machine.specs.Openings.{IsStuck, MakesAll, Opens, rules_of}
use Rattle.irp_machine.specs.Orders.{IsOrder}
use Rattle.irp_machine.specs.Replays.{PathsCanBeMade}
use Rattle.irp_machine.specs.Settled.{steps_settled}
use Rattle.irp_machine.specs.Standings.{StandingValue}
use Rattle.irp_machine.proofs.Histories.{start_untold, starts_once}
use Rattle.irp_machine.proofs.OneHeader.{header_once}
use Rattle.irp_machine.proofs.Stuck.{Stops, stops_of}
use Rattle.irp_machine.proofs.Untold.{act_untold, silent, steps_untold, untold}

-- a path that was made isn't stuck
never_both : (rules : RulesValue) (old : StandingValue) (path : List ℕ) (last : StandingValue) → MakesAll rules old path last → Stops rules old path → ⊥
never_both rules old [] last makes stuck = stuck
never_both rules old (seat ∷ path) last makes (inl none) =
    none-some makes.0 (sym (subst (λ (act : Option Planned). StepsTo rules old seat act (Some makes.0)) none makes.1))
never_both rules old (seat ∷ path) last makes (inr (other, steps, stuck)) =
    let same = same_Some makes.0 other (steps_settled rules old seat (act_of rules old seat) (Some makes.0) (Some other) makes.1 steps) in
    never_both rules other path last (subst (λ (middle : StandingValue). MakesAll rules middle path last) same makes.2) stuck

-- a path that is stuck is so without what was told
stuck_untold : (rules : RulesValue) (old : StandingValue) (path : List ℕ) → Stops rules old path → Stops (silent rules) (untold old) path
stuck_untold rules old [] stuck = stuck
stuck_untold rules old (seat ∷ path) (inl none) = inl (act_untold rules old seat ∙ none)
stuck_untold rules old (seat ∷ path) (inr (middle, steps, stuck)) =
    inr (
      untold middle,
      subst (λ (act : Option Planned). StepsTo (silent rules) (untold old) seat act (Some (untold middle))) (sym (act_untold rules old seat))
          (steps_untold rules old seat (act_of rules old seat) middle steps),
      stuck_untold rules middle path stuck,
    )

order_made : (header : Header) (script : ScriptParts) (tells : Bool) (start : StandingValue) (path : List ℕ) (end : End) → Opens header script start
    → IsOrder (rules_of header script script.steps script.steps tells) start path end → Stops (rules_of header script script.steps script.steps true) start path → ⊥
order_made header script true start path end opens order stuck =
    never_both (rules_of header script script.steps script.steps true) start path order.0 order.1 stuck
order_made header script false start path end opens order stuck =
    let rules = rules_of header script script.steps script.steps true in
    never_both (silent rules) start path order.0 order.1
    (subst (λ (start : StandingValue). Stops (silent rules) start path) (start_untold header script start opens) (stuck_untold rules start path stuck))

pub paths_made : PathsCanBeMade
paths_made script tells outcomes k outcome found at given =
    let same = header_once script found.header given.header found.headed given.headed in
    let within = slice_get_within outcomes k outcome at in
    let one = get_or_from_slice_get outcomes k outcome outcome at in
    let path = outcome.path.items in
    let order : IsOrder (rules_of found.header script script.steps script.steps tells) found.start path outcome.end =
    subst (λ (one : Outcome). IsOrder (rules_of found.header script script.steps script.steps tells) found.start one.path.items one.end) one (found.whole.sound k outcome within) in
    let opens = subst (λ (header : Header). Opens header script found.start) same found.opens in
    let start = starts_once given.header script found.start given.start opens given.opens in
    order_made given.header script tells found.start path outcome.end opens
    (subst (λ (header : Header). IsOrder (rules_of header script script.steps script.steps tells) found.start path outcome.end) same order)
    (stops_of (rules_of given.header script script.steps script.steps true) found.start path
    (subst (λ (start : StandingValue). IsStuck (rules_of given.header script script.steps script.steps true) start path) (sym start) given.stuck))
