-- Values that are taken one after the other.
use Rattle.std.proofs.Common.{ℕ, ◌≡◌, ◌<◌, ◌+◌, ◌∙◌, suc, arith, List, Bor, length, get_or, ap, subst, Option, Some, None, ◌≤◌}
use Rattle.std.specs.Prelude.{OnSome}
use Rattle.irp_names.specs.Plans.{parts_of, plan_parts}
use Rattle.irp_names.specs.declared.plan_kinds.PlanKind.{PlanKind}
use Rattle.irp_names.specs.declared.plan_kinds.PlanKind.TheVariants as kind
use Rattle.std.specs.List.{slice_get}
use Rattle.std.specs.Option.{option_map}
use Rattle.std.proofs.lemmas.Option.{slice_get-get_or, slice_get-map}
use Rattle.irp_forms.specs.Steps.{ActKey, keys_named}
use Rattle.irp_forms.specs.declared.key_parts.Part.{Part}
use Rattle.irp_grammar.specs.Naming.{Given}
use Rattle.irp_grammar.specs.Reading.{OnlyGives, given_of, with_given}
use Rattle.irp_grammar.specs.Values.{TakeKeys, TakeParts, TakesKey, TakesPart}
use Rattle.irp_grammar.specs.declared.{said.Said.Said, step_line.Value.Value}

pub only_both : (old between new : Said) → OnlyGives old between → OnlyGives between new → OnlyGives old new
only_both old between new one other = other ∙ ap (with_given (given_of new)) one

pub parts_more : (count : ℕ) (parts : List Part) (words behind rest : List (List ℕ)) (before between after : List Value)
    (old given new : Given) → TakeParts count parts words behind before between old given
    → TakesPart count parts behind rest between after given new → TakeParts (count + 1) parts words rest before after old new
parts_more count parts words behind rest before between after old given new say more =
    let is : suc count ≡ count + 1 = omega (arith) in
    subst (λ (n : ℕ). TakeParts n parts words rest before after old new) is (behind, between, given, say, more)

pub keys_more : (count : ℕ) (keys : List ActKey) (words behind rest : List (List ℕ)) (before between after : List Value)
    (old given new : Given) → TakeKeys count keys words behind before between old given
    → TakesKey keys behind rest between after given new → TakeKeys (count + 1) keys words rest before after old new
keys_more count keys words behind rest before between after old given new say more =
    let is : suc count ≡ count + 1 = omega (arith) in
    subst (λ (n : ℕ). TakeKeys n keys words rest before after old new) is (behind, between, given, say, more)

pub key_there : (keys : List (Bor (List ℕ) × Part)) (place : ℕ) (d : Bor (List ℕ) × Part) (word : List ℕ)
    → place < length keys → (get_or keys place d).0.now ≡ word
    → slice_get (keys_named keys) place ≡ Some (word, (get_or keys place d).1)
key_there keys place d word below same =
    let named : Bor (List ℕ) × Part → ActKey = λ key. (key.0.now, key.1) in
    slice_get-map named keys place ∙ ap (option_map named) (slice_get-get_or keys place d below)
    ∙ ap (λ (text : List ℕ). Some (text, (get_or keys place d).1)) same

pub value_there : (values : List Value) (place : ℕ) (said : Value) → place < length values → get_or values place said ≡ said
    → slice_get values place ≡ Some said
value_there values place said below is = slice_get-get_or values place said below ∙ ap (λ (one : Value). Some one) is

-- what holds where there is something
pub on_some : {T P Q : Type 0} (r : Option T) → (P → Q) → OnSome r P → OnSome r Q
on_some (Some one) then holds = then holds
on_some None then holds = holds

pub parts_few : (one : PlanKind) → length (parts_of one) ≤ 6
unfolding parts_of plan_parts
parts_few kind.Finish = omega (arith)
parts_few kind.Hold = omega (arith)
parts_few kind.HoldSlot = omega (arith)
parts_few kind.Skip = omega (arith)
parts_few kind.Forward = omega (arith)
parts_few kind.ForwardPend = omega (arith)
