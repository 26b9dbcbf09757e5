-- Majors that rise from each pair to the next.
use Rattle.std.proofs.Common.{◌≡◌, ℕ, ◌+◌, ◌-◌, ◌<◌, ◌≤◌, List, length, get_or, ap, ◌∙◌, arith, inl, inr}
use Rattle.std.specs.Prelude.{slice_index}
use Rattle.std.specs.List.Sorted.{IsStrictlyIncreasing}
use Rattle.std.proofs.lemmas.Bool.{cases_eq}
use Rattle.std.proofs.lemmas.List.{length-map}
use Rattle.std.proofs.Math.ListN.{get_or-map}
use Rattle.irp_types.specs.State.{Entrance}
use Rattle.irp_transcript.specs.Headers.{majors}

abbrev none : Entrance
none = (0, record { 0 = 0 })

major_at : (pairs : List Entrance) (k : ℕ) → slice_index (majors pairs) k ≡ (get_or pairs k none).0
major_at pairs k = get_or-map (λ (entrance : Entrance). entrance.0) pairs k none

-- the major of one more place is above the one before it
pub rises_more : (pairs : List Entrance) (place : ℕ) → 1 ≤ place → (get_or pairs (place - 1) none).0 < (get_or pairs place none).0
    → ((k : ℕ) → k + 1 < place → slice_index (majors pairs) k < slice_index (majors pairs) (k + 1))
    → (k : ℕ) → k + 1 < place + 1 → slice_index (majors pairs) k < slice_index (majors pairs) (k + 1)
rises_more pairs place some rises before k within =
    elim (cases_eq (k + 1) place) as (λ _. slice_index (majors pairs) k < slice_index (majors pairs) (k + 1)) [
      | inl is ↦
          let here : k ≡ place - 1 = omega (arith, is) in
          let low : slice_index (majors pairs) k ≡ (get_or pairs (place - 1) none).0 = major_at pairs k ∙ ap (λ j. (get_or pairs j none).0) here in
          let high : slice_index (majors pairs) (k + 1) ≡ (get_or pairs place none).0 = major_at pairs (k + 1) ∙ ap (λ j. (get_or pairs j none).0) is in
          omega (arith, low, high, rises)
      | inr other ↦ before k (omega (arith, other, within))
    ]

-- a major that isn't above the one before it stops the rise
pub rises_not : (pairs : List Entrance) (place : ℕ) → 1 ≤ place → place < length pairs → (get_or pairs place none).0 ≤ (get_or pairs (place - 1) none).0
    → IsStrictlyIncreasing (majors pairs) → ⊥
rises_not pairs place some within falls rising =
    let low = major_at pairs (place - 1) in
    let high : slice_index (majors pairs) (place - 1 + 1) ≡ (get_or pairs place none).0 =
    major_at pairs (place - 1 + 1) ∙ ap (λ j. (get_or pairs j none).0) (let same : place - 1 + 1 ≡ place = omega (arith, some) in same) in
    let rises = rising (place - 1) (omega (arith, some, within, length-map pairs (λ (entrance : Entrance). entrance.0))) in
    absurd (omega (arith, low, high, rises, falls))
