-- The pairs by rising major function code.
use Rattle.std.proofs.Common.{◌≡◌, ℕ, ◌+◌, ◌<◌, ◌≤◌, List, [], ◌∷◌, map, length, filter, Option, Some, None, is_some, refl, sym, subst, arith, cond, slice_index, zero, suc, ◌++◌, ◌∙◌, ap}
use Rattle.std.specs.List.{All, range_with_len, filter_map, cons_option}
use Rattle.std.specs.List.Sorted.{IsStrictlyIncreasing}
use Rattle.std.specs.Option.{option_map}
use Rattle.std.proofs.lemmas.List.{append-nil}
use Rattle.std.proofs.lemmas.List.Elements.{All-nil, All-cons, All-head, All-tail, filter_map-append}
use Rattle.std.proofs.lemmas.List.Kept.{IsStrictlyIncreasing-filter}
use Rattle.std.proofs.lemmas.List.FromFn.{length-range_with_len, get_or-range_with_len}
use Rattle.irp_types.specs.Limits.{last_major}
use Rattle.irp_types.specs.State.{Tables, Entrance, IsDriver, dispatch_in}
use Rattle.irp_types.specs.declared.names.DispatchId.{DispatchId}
use Rattle.irp_routines.specs.Tables.{majors, entrance_of, by_major}
use Rattle.irp_routines.specs.TableFacts.{found_dispatch}

-- the majors of the pairs are those that have a dispatch
majors_found : (pairs : List Entrance) (numbers : List ℕ)
    → map (λ (entrance : Entrance). entrance.0) (filter_map (entrance_of pairs) numbers) ≡ filter (λ major. is_some (dispatch_in pairs major)) numbers
majors_found pairs [] = refl
majors_found pairs (major ∷ others) = by_found (dispatch_in pairs major) (majors_found pairs others)
  where
    by_found : (found : Option DispatchId)
        → map (λ (entrance : Entrance). entrance.0) (filter_map (entrance_of pairs) others) ≡ filter (λ each. is_some (dispatch_in pairs each)) others
        → map (λ (entrance : Entrance). entrance.0) (cons_option (option_map (λ (dispatch : DispatchId). (major, dispatch)) found) (filter_map (entrance_of pairs) others))
        ≡ cond (is_some found) (major ∷ filter (λ each. is_some (dispatch_in pairs each)) others) (filter (λ each. is_some (dispatch_in pairs each)) others)
    by_found None rest = rest
    by_found (Some dispatch) rest = λ i. major ∷ rest i

rising_range : (start count : ℕ) → IsStrictlyIncreasing (range_with_len start count)
rising_range start count place within =
    let long = length-range_with_len start count in
    let here : slice_index (range_with_len start count) place ≡ start + place = get_or-range_with_len start count place 0 (omega (arith, within, long)) in
    let next : slice_index (range_with_len start count) (place + 1) ≡ start + (place + 1) = get_or-range_with_len start count (place + 1) 0 (omega (arith, within, long)) in
    omega (arith, here, next)

within_majors : All (λ major. major ≤ last_major) majors
within_majors place default within =
    let long = length-range_with_len 0 (last_major + 1) in
    let here = get_or-range_with_len 0 (last_major + 1) place default (omega (arith, within, long)) in
    omega (arith, within, long, here)

-- what is true of each found dispatch beside its major is true of the pairs
all_found : (P : Entrance → Type 0) (Q : ℕ → Type 0) (pairs : List Entrance) (numbers : List ℕ)
    → ((major : ℕ) (dispatch : DispatchId) → Q major → dispatch_in pairs major ≡ Some dispatch → P (major, dispatch))
    → All Q numbers → All P (filter_map (entrance_of pairs) numbers)
all_found P Q pairs [] each all = All-nil P
all_found P Q pairs (major ∷ others) each all =
    by_found (dispatch_in pairs major) (λ dispatch. each major dispatch (All-head Q major others all)) (all_found P Q pairs others each (All-tail Q major others all))
  where
    by_found : (found : Option DispatchId) → ((dispatch : DispatchId) → found ≡ Some dispatch → P (major, dispatch)) → All P (filter_map (entrance_of pairs) others)
        → All P (cons_option (option_map (λ (dispatch : DispatchId). (major, dispatch)) found) (filter_map (entrance_of pairs) others))
    by_found None is rest = rest
    by_found (Some dispatch) is rest = All-cons P (major, dispatch) (filter_map (entrance_of pairs) others) (is dispatch refl) rest

-- pairs whose dispatches are there make a driver's table
pub driver_by_major : (tables : Tables) (pairs : List Entrance) → All (λ (entrance : Entrance). entrance.1.0 < length tables.dispatches) pairs → IsDriver tables (by_major pairs)
driver_by_major tables pairs named =
    let within = λ (major : ℕ). major ≤ last_major in
    record {
      rising = subst IsStrictlyIncreasing (sym (majors_found pairs majors)) (IsStrictlyIncreasing-filter (λ major. is_some (dispatch_in pairs major)) majors (rising_range 0 (last_major + 1)));
      majors = all_found (λ (entrance : Entrance). entrance.0 ≤ last_major) within pairs majors (λ major dispatch is found. is) within_majors;
      named = all_found (λ (entrance : Entrance). entrance.1.0 < length tables.dispatches) within pairs majors
          (λ major dispatch is found. found_dispatch (λ (given : DispatchId). given.0 < length tables.dispatches) major pairs dispatch named found) within_majors;
    }

-- the numbers in a row, one more
range_more : (start count : ℕ) → range_with_len start (count + 1) ≡ range_with_len start count ++ (start + count) ∷ []
range_more start zero = λ i. plus_none start i ∷ []
  where
    plus_none : (number : ℕ) → number ≡ number + 0
    plus_none number = omega arith
range_more start (suc count) =
    subst (λ given. range_with_len start given ≡ range_with_len start (suc count) ++ (start + suc count) ∷ []) suc_plus
    (λ i. start ∷ (range_more (start + 1) count ∙ ap (λ last. range_with_len (start + 1) count ++ last ∷ []) plus_one) i)
  where
    suc_plus : suc (count + 1) ≡ suc count + 1
    suc_plus = omega arith

    plus_one : (start + 1) + count ≡ start + suc count
    plus_one = omega arith

-- the pairs of one major more
pairs_more : (pairs : List Entrance) (count : ℕ)
    → filter_map (entrance_of pairs) (range_with_len 0 (count + 1)) ≡ filter_map (entrance_of pairs) (range_with_len 0 count) ++ cons_option (entrance_of pairs count) []
pairs_more pairs count =
    ap (filter_map (entrance_of pairs)) (range_more 0 count ∙ ap (λ last. range_with_len 0 count ++ last ∷ []) none_plus)
    ∙ filter_map-append (entrance_of pairs) (range_with_len 0 count) (count ∷ [])
  where
    none_plus : 0 + count ≡ count
    none_plus = omega arith

-- where the major has a dispatch, and where it has none
pub found_more : (pairs : List Entrance) (count : ℕ) (dispatch : DispatchId) → dispatch_in pairs count ≡ Some dispatch
    → filter_map (entrance_of pairs) (range_with_len 0 (count + 1)) ≡ filter_map (entrance_of pairs) (range_with_len 0 count) ++ (count, dispatch) ∷ []
found_more pairs count dispatch is =
    pairs_more pairs count
    ∙ ap (λ (found : Option DispatchId). filter_map (entrance_of pairs) (range_with_len 0 count) ++ cons_option (option_map (λ (given : DispatchId). (count, given)) found) []) is

pub missed_more : (pairs : List Entrance) (count : ℕ) → dispatch_in pairs count ≡ None
    → filter_map (entrance_of pairs) (range_with_len 0 (count + 1)) ≡ filter_map (entrance_of pairs) (range_with_len 0 count)
missed_more pairs count is =
    pairs_more pairs count
    ∙ ap (λ (found : Option DispatchId). filter_map (entrance_of pairs) (range_with_len 0 count) ++ cons_option (option_map (λ (given : DispatchId). (count, given)) found) []) is
    ∙ append-nil (filter_map (entrance_of pairs) (range_with_len 0 count))
