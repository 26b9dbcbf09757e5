-- Pairs whose majors rise stand by major as they are.
use Rattle.std.proofs.Common.{◌≡◌, ℕ, ◌+◌, ◌<◌, ◌≤◌, ◌==◌, Bool, true, false, List, [], ◌∷◌, map, slice_index_or, Option, Some, None, refl, sym, ◌∙◌, ap, arith, cond, find, zero, suc}
use Rattle.std.specs.List.{All, AllPairs, range_with_len, filter_map, cons_option}
use Rattle.std.specs.List.Sorted.{IsStrictlyIncreasing}
use Rattle.std.specs.Option.{option_map}
use Rattle.std.proofs.lemmas.Bool.{eqb-true, eqb-false}
use Rattle.std.proofs.lemmas.List.{length-map, get_or-map}
use Rattle.std.proofs.lemmas.List.Elements.{All-cons, All-head, All-tail, All-weaker}
use Rattle.std.proofs.lemmas.List.Kept.{AllPairs-from_increasing}
use Rattle.irp_types.specs.Limits.{last_major}
use Rattle.irp_types.specs.State.{Tables, Entrance, IsDriver, AreTables, dispatch_in}
use Rattle.irp_types.specs.declared.names.DispatchId.{DispatchId}
use Rattle.irp_routines.specs.Tables.{entrance_of, by_major}
use Rattle.irp_routines.specs.TableFacts.{each_driver}

-- a pair's major is at least this, above this, below this
abbrev Low : ℕ → Entrance → Type 0
Low least entrance = least ≤ entrance.0

abbrev Above : ℕ → Entrance → Type 0
Above number entrance = number < entrance.0

abbrev High : ℕ → Entrance → Type 0
High bound entrance = entrance.0 < bound

-- each major is below all later ones
abbrev Rise : List Entrance → Type 0
Rise pairs = AllPairs (λ (first later : Entrance). first.0 < later.0) pairs

rise_from : (pairs : List Entrance) → IsStrictlyIncreasing (map (λ (entrance : Entrance). entrance.0) pairs) → Rise pairs
rise_from pairs rising i j default before within =
    let major : Entrance → ℕ = λ entrance. entrance.0 in
    let long = length-map pairs major in
    let all = AllPairs-from_increasing (map major pairs) rising i j (major default) before (omega (arith, within, long)) in
    let first = get_or-map major pairs i default (major default) (omega (arith, before, within)) in
    let later = get_or-map major pairs j default (major default) within in
    omega (arith, all, first, later)

rise_tail : (first : Entrance) (others : List Entrance) → Rise (first ∷ others) → Rise others
rise_tail first others rise i j default before within = rise (suc i) (suc j) default (omega (arith, before)) (omega (arith, within))

rise_head : (first : Entrance) (others : List Entrance) → Rise (first ∷ others) → All (Above first.0) others
rise_head first others rise place default within = rise 0 (suc place) default (omega arith) (omega (arith, within))

-- two numbers of which one is less aren't equal
apart : (first second : ℕ) → (first ≡ second → ⊥) → (first == second) ≡ false
apart first second differ = by_test (first == second) refl
  where
    by_test : (test : Bool) → (first == second) ≡ test → test ≡ false
    by_test true is = absurd (differ (eqb-true first second is))
    by_test false is = refl

-- a pair of another major isn't the one that is found
passed : (first : Entrance) (others : List Entrance) (major : ℕ) → (first.0 ≡ major → ⊥) → dispatch_in (first ∷ others) major ≡ dispatch_in others major
passed first others major differ =
    ap (λ test. option_map (λ (entrance : Entrance). entrance.1) (cond test (Some first) (find (λ (entrance : Entrance). entrance.0 == major) others))) (apart first.0 major differ)

-- a major below those of the pairs has no dispatch among them
below_none : (pairs : List Entrance) (major : ℕ) → All (Above major) pairs → dispatch_in pairs major ≡ None
below_none [] major all = refl
below_none (first ∷ others) major all =
    let head = All-head (Above major) first others all in
    passed first others major (λ same. omega (arith, head, same)) ∙ below_none others major (All-tail (Above major) first others all)

-- a pair below all majors that are looked for is never found
skipped : (first : Entrance) (others : List Entrance) (start count : ℕ) → first.0 < start
    → filter_map (entrance_of (first ∷ others)) (range_with_len start count) ≡ filter_map (entrance_of others) (range_with_len start count)
skipped first others start zero below = refl
skipped first others start (suc count) below =
    ap (λ (found : Option DispatchId). cons_option (option_map (λ (dispatch : DispatchId). (start, dispatch)) found) (filter_map (entrance_of (first ∷ others)) (range_with_len (start + 1) count)))
    (passed first others start (λ same. omega (arith, below, same)))
    ∙ ap (cons_option (entrance_of others start)) (skipped first others (start + 1) count (omega (arith, below)))

no_pairs : (start count : ℕ) → filter_map (entrance_of []) (range_with_len start count) ≡ []
no_pairs start zero = refl
no_pairs start (suc count) = no_pairs (start + 1) count

-- pairs whose majors rise, and are all looked for, are found in their order
all_stand : (pairs : List Entrance) (start count : ℕ)
    → Rise pairs → All (Low start) pairs → All (High (start + count)) pairs
    → filter_map (entrance_of pairs) (range_with_len start count) ≡ pairs
all_stand [] start count rise low high = no_pairs start count
all_stand (first ∷ others) start zero rise low high =
    let above = All-head (Low start) first others low in
    let below = All-head (High (start + 0)) first others high in
    absurd (omega (arith, above, below))
all_stand (first ∷ others) start (suc count) rise low high =
    by_test (first.0 == start) refl (all_stand others (start + 1) count) (all_stand (first ∷ others) (start + 1) count)
  where
    below : All (High ((start + 1) + count)) (first ∷ others)
    below = All-weaker (High (start + suc count)) (High ((start + 1) + count)) (λ entrance is. omega (arith, is)) (first ∷ others) high

    by_test : (test : Bool) → (first.0 == start) ≡ test
        → (Rise others → All (Low (start + 1)) others → All (High ((start + 1) + count)) others → filter_map (entrance_of others) (range_with_len (start + 1) count) ≡ others)
        → (Rise (first ∷ others) → All (Low (start + 1)) (first ∷ others) → All (High ((start + 1) + count)) (first ∷ others)
        → filter_map (entrance_of (first ∷ others)) (range_with_len (start + 1) count) ≡ first ∷ others)
        → filter_map (entrance_of (first ∷ others)) (range_with_len start (suc count)) ≡ first ∷ others
    by_test true is of_others of_all =
        let same : first.0 ≡ start = eqb-true first.0 start is in
        let above : All (Low (start + 1)) others = All-weaker (Above first.0) (Low (start + 1)) (λ entrance later. omega (arith, later, same)) others (rise_head first others rise) in
        let rest : filter_map (entrance_of (first ∷ others)) (range_with_len (start + 1) count) ≡ others =
        skipped first others (start + 1) count (omega (arith, same)) ∙ of_others (rise_tail first others rise) above (All-tail (High ((start + 1) + count)) first others below) in
        ap (λ test. cons_option (option_map (λ (dispatch : DispatchId). (start, dispatch)) (option_map (λ (entrance : Entrance). entrance.1)
        (cond test (Some first) (find (λ (entrance : Entrance). entrance.0 == start) others)))) (filter_map (entrance_of (first ∷ others)) (range_with_len (start + 1) count))) is
        ∙ ap (λ (found : List Entrance). (start, first.1) ∷ found) rest
        ∙ ap (λ (major : ℕ). (major, first.1) ∷ others) (sym same)
    by_test false is of_others of_all =
        let head : start ≤ first.0 = All-head (Low start) first others low in
        let differ : first.0 ≡ start → ⊥ = eqb-false first.0 start is in
        let least : start + 1 ≤ first.0 = omega (arith, head, differ) in
        let above : All (Low (start + 1)) (first ∷ others) =
        All-cons (Low (start + 1)) first others least (All-weaker (Above first.0) (Low (start + 1)) (λ entrance later. omega (arith, later, least)) others (rise_head first others rise)) in
        ap (λ (found : Option DispatchId). cons_option (option_map (λ (dispatch : DispatchId). (start, dispatch)) found) (filter_map (entrance_of (first ∷ others)) (range_with_len (start + 1) count)))
        (below_none (first ∷ others) start (All-weaker (Low (start + 1)) (Above start) (λ entrance later. omega (arith, later)) (first ∷ others) above))
        ∙ of_all rise above below

-- a driver's pairs stand by rising major
stands : (tables : Tables) (driver : List Entrance) → IsDriver tables driver → by_major driver ≡ driver
stands tables driver is =
    all_stand driver 0 (last_major + 1) (rise_from driver is.rising) (λ place default within. omega arith)
    (All-weaker (λ (entrance : Entrance). entrance.0 ≤ last_major) (High (0 + (last_major + 1))) (λ entrance least. omega (arith, least)) driver is.majors)

-- so do those of the driver of any number
pub driver_stands : (tables : Tables) (number : ℕ) → AreTables tables → by_major (slice_index_or tables.drivers number []) ≡ slice_index_or tables.drivers number []
driver_stands tables number agree =
    let Stands = λ (driver : List Entrance). by_major driver ≡ driver in
    each_driver Stands tables.drivers number (no_pairs 0 (last_major + 1)) (All-weaker (IsDriver tables) Stands (stands tables) tables.drivers agree.drivers)
