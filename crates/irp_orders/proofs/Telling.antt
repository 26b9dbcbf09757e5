-- Conditions that no right end meets.
use Rattle.std.proofs.Common.{◌≡◌, ◌∙◌, ◌/◌, ◌≤◌, ℕ, Bool, true, false, List, Option, Some, None, All, nat_lt, refl, sym, ap, subst, arith}
use Rattle.std.specs.Prelude.{Err, IfOk, IfSome, Ok, Result, String, slice_get, string_bytes}
use Rattle.std.specs.List.{find, position_or_len}
use Rattle.std.specs.Option.{option_map}
use Rattle.std.proofs.lemmas.List.Elements.{All-get_or}
use Rattle.std.proofs.lemmas.List.Folds.{find_at}
use Rattle.std.proofs.lemmas.Option.{get_or_from_slice_get, slice_get-map, slice_get_within}
use Rattle.irp_types.specs.declared.entry.Entry.{Entry}
use Rattle.irp_types.specs.declared.location.Owner.{Owner}
use Rattle.irp_types.specs.declared.location.Owner.TheVariants as owner
use Rattle.irp_types.specs.declared.names.IrpRef.{IrpRef}
use Rattle.irp_types.specs.declared.reply.Reply.TheVariants as reply
use Rattle.irp_transcript.specs.declared.word_line.WordReply.TheVariants as word
use Rattle.irp_condition.specs.Formulas.{formula_of}
use Rattle.irp_condition.specs.Holding.{held_value, label_value, reply_value, told_value, value_of}
use Rattle.irp_condition.specs.declared.condition.Comparison.TheVariants.{Equal}
use Rattle.irp_condition.specs.declared.condition.Condition.{Condition}
use Rattle.irp_condition.specs.declared.condition.Condition.TheVariants.{Compare}
use Rattle.irp_condition.specs.declared.condition.Fact.{Fact}
use Rattle.irp_condition.specs.declared.condition.Fact.TheVariants as fact
use Rattle.irp_condition.specs.declared.condition.Term.TheVariants as term
use Rattle.irp_condition.specs.declared.facts.Facts.{Facts}
use Rattle.irp_condition.specs.declared.scope.Scope.{Scope}
use Rattle.irp_condition.specs.declared.value.Value.TheVariants as value
use Rattle.irp_machine.specs.declared.live_end.LiveEnd.{LiveEnd}
use Rattle.irp_machine.specs.declared.outcome.End.{End}
use Rattle.irp_machine.specs.declared.outcome.LockEnd.{LockEnd}
use Rattle.irp_plain.specs.declared.answered.Answered.{Answered}
use Rattle.irp_plain.specs.declared.answered.Answered.TheVariants as answered
use Rattle.irp_script_reader.specs.declared.act.Step.{Step}
use Rattle.irp_script_reader.specs.declared.script.ScriptParts.{ScriptParts}
use Rattle.irp_orders.specs.Conditions.{IsScopeOf}
use Rattle.irp_orders.specs.Facts.{Meets, answers_of, facts_of, live_of, names, packet_of, seen_of}
use Rattle.irp_orders.specs.Right.{IsAccepted, IsBack, IsReleased, IsRight, is_device, is_refused}
use Rattle.irp_orders.specs.Such.{IsOfWrong, IsSaid, IsSuch, TellsWrong, is_wrong}

at_place : {X : Type 0} (P : X → Type 0) (xs : List X) (place : ℕ) (x : X) → All P xs → slice_get xs place ≡ Some x → P x
at_place P xs place x all is =
    subst P (get_or_from_slice_get xs place x x is) (All-get_or P xs place x (slice_get_within xs place x is) all)

not_both : (test : Bool) → test ≡ true → test ≡ false → ⊥
not_both test one other = grind arith

-- ---- a step was refused

refused_so : (answer : Answered) (step : ℕ) → is_wrong (fact.Reply step) (told_value (seen_of answer)) ≡ is_refused answer
refused_so (answered.Reply (reply.Previous None)) step = refl
refused_so (answered.Word (word.Busy word)) step = refl
refused_so other step = refl

reply_wrong : (answers : List (Option Answered)) (step : ℕ) (found : Option (Option Answered)) → slice_get answers step ≡ found
    → All IsAccepted answers → is_wrong (fact.Reply step) (reply_value (option_map (option_map seen_of) found)) ≡ true → ⊥
reply_wrong answers step None is all wrong = cc
reply_wrong answers step (Some None) is all wrong = cc
reply_wrong answers step (Some (Some answer)) is all wrong =
    not_both (is_refused answer) (sym (refused_so answer step) ∙ wrong) (at_place IsAccepted answers step (Some answer) all is)

-- ---- a device has a packet

owned_so : (owner : Owner) (label : ℕ) → is_wrong (fact.Owner label) (value.Owner owner) ≡ is_device owner
owned_so (owner.Device device) label = refl
owned_so other label = refl

live_wrong : (packets : List LiveEnd) (irp : IrpRef) (label : ℕ) (found : Option LiveEnd) → find (names irp) packets ≡ found
    → All IsBack packets
    → is_wrong (fact.Owner label) (label_value (fact.Owner label) (Some (option_map packet_of found))) ≡ true → ⊥
live_wrong packets irp label None is all wrong = cc
live_wrong packets irp label (Some live) is all wrong =
    not_both (is_device live.owner) (sym (owned_so live.owner label) ∙ wrong)
    (at_place IsBack packets (position_or_len (names irp) packets) live all (sym (find_at (names irp) packets) ∙ is))

owner_wrong : (packets : List LiveEnd) (label : ℕ) (found : Option IrpRef) → All IsBack packets
    → is_wrong (fact.Owner label) (label_value (fact.Owner label) (option_map (live_of packets) found)) ≡ true → ⊥
owner_wrong packets label None all wrong = cc
owner_wrong packets label (Some irp) all wrong = live_wrong packets irp label (find (names irp) packets) refl all wrong

-- ---- a remove lock is held

held_wrong : (locks : List LockEnd) (lock : ℕ) (found : Option LockEnd) → slice_get locks lock ≡ found → All IsReleased locks
    → is_wrong (fact.Held lock) (held_value (option_map (λ (lock : LockEnd). lock.word) found)) ≡ true → ⊥
held_wrong locks lock None is all wrong = cc
held_wrong locks lock (Some end) is all wrong =
    let released : end.word ≤ 1 = at_place IsReleased locks lock end all is in
    let held : nat_lt 0 (end.word / 2) ≡ true = wrong in
    grind (arith, released, held)

-- ---- all of them

-- no right end has such a fact
fact_wrong : (steps : List Step) (setup : List Entry) (end : End) (fact : Fact)
    → is_wrong fact (value_of (facts_of steps end) fact) ≡ true → IsRight steps setup end → ⊥
fact_wrong steps setup end (fact.Reply step) wrong right =
    reply_wrong (answers_of steps end) step (slice_get (answers_of steps end) step) refl right.accepted
    (subst (λ (found : _). is_wrong (fact.Reply step) (reply_value found) ≡ true)
    (slice_get-map (option_map seen_of) (answers_of steps end) step) wrong)
fact_wrong steps setup end (fact.Owner label) wrong right =
    owner_wrong end.packets label (slice_get end.labels label) right.back
    (subst (λ (found : _). is_wrong (fact.Owner label) (label_value (fact.Owner label) found) ≡ true)
    (slice_get-map (live_of end.packets) end.labels label) wrong)
fact_wrong steps setup end (fact.Held lock) wrong right =
    held_wrong end.locks lock (slice_get end.locks lock) refl right.released
    (subst (λ (found : _). is_wrong (fact.Held lock) (held_value found) ≡ true)
    (slice_get-map (λ (lock : LockEnd). lock.word) end.locks lock) wrong)
fact_wrong steps setup end other wrong right = cc

-- such a condition is met here, and by no right end
pub wrong_met : (steps : List Step) (end : End) (condition : Condition) → IsOfWrong (facts_of steps end) (formula_of condition)
    → Meets steps condition end × TellsWrong steps condition
wrong_met steps end (Compare (term.Fact fact) Equal (term.Constant value)) of_wrong = (
  of_wrong.1,
  λ setup other met.
      fact_wrong steps setup other fact (ap (is_wrong fact) met ∙ of_wrong.0),
)
wrong_met steps end other of_wrong = absurd of_wrong

-- a text that says such a condition of these facts
such_said : (script : ScriptParts) (end : End) (scope : Scope) (text : List ℕ) → IsScopeOf script true scope
    → IsSaid scope (facts_of script.steps end) text → IsSuch script end text
such_said script end scope text of_script said = record {
  condition = said.condition;
  says = record { scope = scope; of_script = of_script; said = said.said };
  met = (wrong_met script.steps end said.condition said.wrong).0;
  wrong = (wrong_met script.steps end said.condition said.wrong).1;
}

pub such_told : {Z E : Type 0} (script : ScriptParts) (end : End) (scope : Scope) (facts : Facts) (result : Result (Option (String Z)) E)
    → IsScopeOf script true scope → facts ≡ facts_of script.steps end
    → IfOk result (λ told. IfSome told (λ text. IsSaid scope facts (string_bytes text)))
    → IfOk result (λ told. IfSome told (λ text. IsSuch script end (string_bytes text)))
such_told script end scope facts (Err error) of_script are said = tt
such_told script end scope facts (Ok None) of_script are said = tt
such_told script end scope facts (Ok (Some text)) of_script are said =
    such_said script end scope (string_bytes text) of_script
    (subst (λ (facts : Facts). IsSaid scope facts (string_bytes text)) are said)
