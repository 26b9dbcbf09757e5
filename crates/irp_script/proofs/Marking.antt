-- Labels that other workers bind, marked step by step.
use Rattle.std.proofs.Common.{◌≡◌, ◌<◌, ◌==◌, ◌||◌, ℕ, Bool, true, false, Option, Some, None, List, [], ◌∷◌, ◌++◌, length, get_or, set, replicate, refl, sym, ap, ◌∙◌, arith, inl, inr}
use Rattle.std.proofs.Math.Bool.{or-false}
use Rattle.std.specs.List.{list_any}
use Rattle.std.proofs.lemmas.Bool.Decides.{eqb_tells}
use Rattle.std.proofs.lemmas.List.{ext_get_or, get_or-replicate, get_or-set_other, get_or-set_same, length-replicate, length-set}
use Rattle.std.proofs.lemmas.List.Folds.{list_any-append}
use Rattle.std.proofs.lemmas.List.FromFn.{get_or-map-range_with_len, length-map-range_with_len}
use Rattle.irp_script_reader.specs.declared.act.Step.{Step}
use Rattle.irp_script.specs.Labels.{binds, label_apart, marked, marks_apart}

abbrev binds_some : ℕ → ℕ → List Step → ℕ → Bool
binds_some number workers steps label = list_any (λ step. binds (label_apart number workers step) label) steps

pub marks_long : (number workers : ℕ) (steps : List Step) (count : ℕ) → length (marks_apart number workers steps count) ≡ count
marks_long number workers steps count = length-map-range_with_len (binds_some number workers steps) 0 count

marks_at : (number workers : ℕ) (steps : List Step) (count k : ℕ) (d : Bool) → k < count → get_or (marks_apart number workers steps count) k d ≡ binds_some number workers steps k
marks_at number workers steps count k d lt = get_or-map-range_with_len (binds_some number workers steps) 0 count k k d lt (omega arith)

marked_long : (bound : Option ℕ) (marks : List Bool) → length (marked marks bound) ≡ length marks
marked_long None marks = refl
marked_long (Some label) marks = length-set marks label true

or_true : (b : Bool) → (b || true) ≡ true
or_true true = refl
or_true false = refl

marked_at : (bound : Option ℕ) (marks : List Bool) (k : ℕ) (d : Bool) → k < length marks → (get_or marks k d || (binds bound k || false)) ≡ get_or (marked marks bound) k d
marked_at None marks k d lt = or-false (get_or marks k d)
marked_at (Some label) marks k d lt = elim (eqb_tells label k) as (λ _. (get_or marks k d || ((label == k) || false)) ≡ get_or (set marks label true) k d) [
  | inl is ↦
      ap (λ b. get_or marks k d || (b || false)) is.0 ∙ or_true (get_or marks k d)
      ∙ sym (ap (λ place. get_or (set marks place true) k d) is.1 ∙ get_or-set_same marks k true d lt)
  | inr other ↦
      ap (λ b. get_or marks k d || (b || false)) other.0 ∙ or-false (get_or marks k d)
      ∙ sym (get_or-set_other marks label k true d (λ is. other.1 (sym is)))
]

-- no step marks none
pub marks_none : (number workers count : ℕ) → replicate count false ≡ marks_apart number workers [] count
marks_none number workers count =
    let long = length-replicate count false in
    ext_get_or false (replicate count false) (marks_apart number workers [] count) (long ∙ sym (marks_long number workers [] count))
    (λ k lt.
    let within : k < count = omega (arith, lt, long) in
    get_or-replicate count k false false within ∙ sym (marks_at number workers [] count k false within))

-- one step more marks the label that it binds, where it is another worker's
pub marks_more : (number workers : ℕ) (steps : List Step) (step : Step) (count : ℕ)
    → marked (marks_apart number workers steps count) (label_apart number workers step) ≡ marks_apart number workers (steps ++ step ∷ []) count
marks_more number workers steps step count =
    let bound = label_apart number workers step in
    let marks = marks_apart number workers steps count in
    let long = marks_long number workers steps count in
    let all_long = marked_long bound marks in
    ext_get_or false (marked marks bound) (marks_apart number workers (steps ++ step ∷ []) count)
    (all_long ∙ long ∙ sym (marks_long number workers (steps ++ step ∷ []) count))
    (λ k lt.
    let within : k < count = omega (arith, lt, all_long, long) in
    sym (marked_at bound marks k false (omega (arith, within, long)))
    ∙ ap (λ b. b || (binds bound k || false)) (marks_at number workers steps count k false within)
    ∙ sym (list_any-append (λ step. binds (label_apart number workers step) k) steps (step ∷ []))
    ∙ sym (marks_at number workers (steps ++ step ∷ []) count k false within))
