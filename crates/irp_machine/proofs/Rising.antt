-- A driver's codes rise once they are sorted, since none stands twice.
use Rattle.std.proofs.Common.{◌≡◌, ℕ, ◌==◌, true, false, List, [], ◌∷◌, eqb, ◌∙◌, arith}
use Rattle.std.specs.Prelude.{IsPermutation, not, ◌&&◌}
use Rattle.std.specs.List.{AllByRecursion, IsDistinct}
use Rattle.std.specs.List.Sorted.{IsNonDecreasing, IsNonDecreasingBy, IsStrictlyIncreasing}
use Rattle.std.proofs.lemmas.Cmp.{nat_eq_equiv}
use Rattle.std.proofs.lemmas.Bool.{and_parts, not-true, or_parts}
use Rattle.std.proofs.lemmas.List.{length-map}
use Rattle.std.proofs.lemmas.List.Sorted.{IsPermutation-map}
use Rattle.std.proofs.lemmas.Map.Keys.{IsDistinct-IsPermutation, IsStrictlyIncreasing-from_distinct}
use Rattle.std.proofs.Math.ListN.{get_or-map}
use Rattle.irp_types.specs.State.{Entrance}
use Rattle.irp_transcript.specs.Headers.{majors}
use Rattle.irp_script_reader.specs.Plans.{has_major, is_driver, is_handler}
use Rattle.irp_machine.specs.Headers.{AreMajorsApart}

apart_from : (major : ℕ) (others : List Entrance) → has_major major others ≡ false → AllByRecursion (λ other. eqb major other ≡ false) (majors others)
apart_from major [] none = tt
apart_from major (first ∷ others) none =
    let parts = or_parts (first.0 == major) (has_major major others) none in
    (nat_eq_equiv.symm major first.0 ∙ parts.0, apart_from major others parts.1)

-- a driver of a script has no code twice
pub majors_apart : (dispatches : ℕ) (driver : List Entrance) → is_driver dispatches driver ≡ true → AreMajorsApart driver
unfolding IsDistinct
majors_apart dispatches [] is = tt
majors_apart dispatches (first ∷ others) is =
    let rest = (and_parts (is_handler dispatches first) (not (has_major first.0 others) && is_driver dispatches others) is).1 in
    let parts = and_parts (not (has_major first.0 others)) (is_driver dispatches others) rest in
    (apart_from first.0 others (not-true (has_major first.0 others) parts.0), majors_apart dispatches others parts.1)

majors_ordered : (sorted : List Entrance) → IsNonDecreasingBy (λ (pair : Entrance). pair.0) sorted → IsNonDecreasing (majors sorted)
majors_ordered sorted ordered i j d low within =
    let pair : Entrance = (d, record { 0 = 0 }) in
    let long = length-map sorted (λ (pair : Entrance). pair.0) in
    let one = get_or-map (λ (pair : Entrance). pair.0) sorted i pair in
    let other = get_or-map (λ (pair : Entrance). pair.0) sorted j pair in
    let order = ordered i j pair low (omega (arith, within, long)) in
    omega (arith, one, other, order)

pub majors_rise : (driver sorted : List Entrance) → AreMajorsApart driver → IsPermutation driver sorted → IsNonDecreasingBy (λ (pair : Entrance). pair.0) sorted
    → IsStrictlyIncreasing (majors sorted)
majors_rise driver sorted apart same ordered =
    IsStrictlyIncreasing-from_distinct (majors sorted) (majors_ordered sorted ordered)
    (IsDistinct-IsPermutation eqb (λ one other. nat_eq_equiv.symm one other) (majors driver) (majors sorted)
    (IsPermutation-map (λ (pair : Entrance). pair.0) driver sorted same) apart)
