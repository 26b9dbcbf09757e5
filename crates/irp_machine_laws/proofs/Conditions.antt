-- What a seat of the machine and a worker have heard, and what conditions make of it.
use Rattle.std.proofs.Common.{◌≡◌, ◌<◌, ℕ, zero, suc, ◌==◌, Bool, true, false, cond, eqb-true, eq-eqb, List, [], ◌∷◌, ◌++◌, length, replicate, set, Option, Some, None, refl, sym, ap, subst, ◌∙◌, arith}
use Rattle.std.specs.Prelude.{slice_get}
use Rattle.std.specs.List.{find}
use Rattle.std.specs.Option.{option_flatten, option_map, option_map_or, option_or}
use Rattle.std.proofs.lemmas.List.{get_or-set_same, length-set}
use Rattle.std.proofs.lemmas.List.Folds.{find-append}
use Rattle.std.proofs.lemmas.Option.{none-some, slice_get-get_or}
use mathlib.Core.Bool.{true≢false}
use Rattle.irp_script_reader.specs.declared.act.Step.{Step}
use Rattle.irp_script_reader.specs.declared.condition.Condition.{Condition}
use Rattle.irp_script_reader.specs.declared.condition.ExpectedAnswer.{ExpectedAnswer}
use Rattle.irp_steps.specs.Conditions as worker
use Rattle.irp_steps.specs.Conditions.{Heard, is_flag, none_heard, with_answer}
use Rattle.irp_steps.specs.declared.answered.Answered.{Answered as Kept}
use Rattle.irp_plain.specs.declared.answered.Answered.{Answered}
use Rattle.irp_plain.specs.declared.answered.Answered.TheVariants.{Reply, Word}
use Rattle.irp_plain.specs.declared.answered.Told.{Told}
use Rattle.irp_machine.specs.Conditions as machine
use Rattle.irp_machine_laws.specs.ConditionLaws.{HearAlike, HearAlikeFor, as_kept}

-- ---- conditions

same_answer : (wanted : ExpectedAnswer) (given : Answered) → machine.expects wanted given ≡ worker.expects wanted (as_kept given)
same_answer wanted (Reply given) = refl
same_answer wanted (Word given) = refl

same_passes : (condition : Condition) (found : Option Answered)
    → option_map_or (λ given. is_flag (machine.expects condition.answer given) condition.wanted) found false ≡ worker.allows condition (option_map as_kept found)
same_passes condition None = refl
same_passes condition (Some given) = ap (λ (is : Bool). is_flag is condition.wanted) (same_answer condition.answer given)

pub hold_alike : (told : List Told) (heard : Heard) (condition : Option Condition) → HearAlikeFor told heard condition → machine.holds told condition ≡ worker.holds heard condition
hold_alike told heard None alike = refl
hold_alike told heard (Some condition) alike = same_passes condition (machine.heard_at told condition.step) ∙ ap (worker.allows condition) (sym alike)

-- ---- nothing heard

none_in : (count step : ℕ) → option_flatten (slice_get (replicate {A = Option Kept} count None) step) ≡ None
none_in zero step = refl
none_in (suc count) zero = refl
none_in (suc count) (suc step) = none_in count step

none_at : (has : Bool) (count step : ℕ) → option_flatten (slice_get (cond has (replicate {A = Option Kept} count None) []) step) ≡ None
none_at true count step = none_in count step
none_at false count step = refl

pub nothing_heard : (steps : List Step) (step : ℕ) → HearAlike [] (none_heard steps) step
nothing_heard steps step = none_at _ (length steps) step

-- ---- one answer more

none_of : {X Y : Type 0} (f : X → Y) (found : Option X) → option_map f found ≡ None → found ≡ None
none_of f None is = refl
none_of f (Some x) is = absurd (none-some (f x) (sym is))

or_nothing : {X : Type 0} (found : Option X) → option_or found None ≡ found
or_nothing None = refl
or_nothing (Some x) = refl

get_other : {X : Type 0} (xs : List X) (i j : ℕ) (x : X) → (i ≡ j → ⊥) → slice_get (set xs i x) j ≡ slice_get xs j
get_other [] i j x apart = refl
get_other (y ∷ ys) zero zero x apart = absurd (apart refl)
get_other (y ∷ ys) zero (suc j) x apart = refl
get_other (y ∷ ys) (suc i) zero x apart = refl
get_other (y ∷ ys) (suc i) (suc j) x apart = get_other ys i j x (λ same. apart (ap suc same))

get_same : {X : Type 0} (xs : List X) (i : ℕ) (x : X) → i < length xs → slice_get (set xs i x) i ≡ Some x
get_same xs i x within =
    slice_get-get_or (set xs i x) i x (omega (arith, within, length-set xs i x)) ∙ ap Some (get_or-set_same xs i x x within)

one_more : (told : List Told) (answered step : ℕ) (given : Answered) (is : Bool) → (answered == step) ≡ is
    → machine.heard_at (told ++ record { step = answered; answer = given } ∷ []) step
    ≡ option_map (λ (one : Told). one.answer) (option_or (find (λ (one : Told). one.step == step) told) (cond is (Some (record { step = answered; answer = given })) None))
one_more told answered step given is test =
    ap (option_map (λ (one : Told). one.answer))
    (find-append (λ (one : Told). one.step == step) told (record { step = answered; answer = given } ∷ [])
    ∙ ap (λ b. option_or (find (λ (one : Told). one.step == step) told) (cond b (Some (record { step = answered; answer = given })) None)) test)

of_same : (told : List Told) (heard : Heard) (answered : ℕ) (given : Answered) → machine.heard_at told answered ≡ None → answered < length heard
    → HearAlike (told ++ record { step = answered; answer = given } ∷ []) (with_answer heard answered (as_kept given)) answered
of_same told heard answered given none within =
    let silent = none_of (λ (one : Told). one.answer) (find (λ (one : Told). one.step == answered) told) none in
    let machine_heard : machine.heard_at (told ++ record { step = answered; answer = given } ∷ []) answered ≡ Some given =
    one_more told answered answered given true (eq-eqb answered answered refl)
    ∙ ap (λ (found : Option Told). option_map (λ (one : Told). one.answer) (option_or found (Some (record { step = answered; answer = given })))) silent in
    ap option_flatten (get_same heard answered (Some (as_kept given)) within) ∙ sym (ap (option_map as_kept) machine_heard)

of_other : (told : List Told) (heard : Heard) (answered step : ℕ) (given : Answered) → (answered ≡ step → ⊥) → (answered == step) ≡ false → HearAlike told heard step
    → HearAlike (told ++ record { step = answered; answer = given } ∷ []) (with_answer heard answered (as_kept given)) step
of_other told heard answered step given apart test alike =
    let machine_heard : machine.heard_at (told ++ record { step = answered; answer = given } ∷ []) step ≡ machine.heard_at told step =
    one_more told answered step given false test ∙ ap (option_map (λ (one : Told). one.answer)) (or_nothing (find (λ (one : Told). one.step == step) told)) in
    ap option_flatten (get_other heard answered step (Some (as_kept given)) apart) ∙ alike ∙ sym (ap (option_map as_kept) machine_heard)

by_test : (told : List Told) (heard : Heard) (answered step : ℕ) (given : Answered) (is : Bool) → (answered == step) ≡ is → HearAlike told heard step
    → machine.heard_at told answered ≡ None → answered < length heard
    → HearAlike (told ++ record { step = answered; answer = given } ∷ []) (with_answer heard answered (as_kept given)) step
by_test told heard answered step given true test alike none within =
    subst (HearAlike (told ++ record { step = answered; answer = given } ∷ []) (with_answer heard answered (as_kept given))) (eqb-true answered step test)
    (of_same told heard answered given none within)
by_test told heard answered step given false test alike none within =
    of_other told heard answered step given (λ same. true≢false (sym (eq-eqb answered step same) ∙ test)) test alike

pub hear_alike : (told : List Told) (heard : Heard) (answered step : ℕ) (given : Answered) → HearAlike told heard step
    → machine.heard_at told answered ≡ None → answered < length heard
    → HearAlike (told ++ record { step = answered; answer = given } ∷ []) (with_answer heard answered (as_kept given)) step
hear_alike told heard answered step given alike none within = by_test told heard answered step given (answered == step) refl alike none within
