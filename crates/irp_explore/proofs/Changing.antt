-- Lemmas on changes of seat along orders.
use Rattle.std.proofs.Common.{ℕ, suc, ◌≡◌, ◌+◌, ◌-◌, ◌<◌, ◌≤◌, ◌==◌, Bool, true, false, if◌then◌else◌, List, [], ◌∷◌, ◌++◌, length, Option, Some, None, refl, ap, sym, ◌∙◌, arith, append_assoc}
use Rattle.std.specs.Prelude.{slice_get}
use Rattle.std.specs.List.{zip}
use Rattle.std.specs.Option.{option_eq}
use Rattle.std.proofs.lemmas.Bool.{eqb-true}
use Rattle.std.proofs.lemmas.List.Sums.{sum_by-cons}
use Rattle.irp_explore.specs.Paths.{changes_of, differ, seam, IsAsGood}

-- the seat of the last step
abbrev pub last_in : List ℕ → Option ℕ
last_in [] = None
last_in (seat ∷ []) = Some seat
last_in (seat ∷ next ∷ path) = last_in (next ∷ path)

abbrev count_of : ℕ × ℕ → ℕ
count_of pair = if differ pair then 1 else 0

differ_count : (one other : ℕ) (same : Bool) → (one == other) ≡ same
    → count_of (one, other) ≡ (if same then 0 else 1)
differ_count one other true is = rw is refl
differ_count one other false is = rw is refl

pub changes_first : (seat : ℕ) (rest : List ℕ) → changes_of (seat ∷ rest) ≡ seam (Some seat) rest + changes_of rest
changes_first seat [] = refl
changes_first seat (next ∷ rest) =
    let more = sum_by-cons count_of (seat, next) (zip (next ∷ rest) rest) in
    let one = differ_count seat next (seat == next) refl in
    omega (arith, more, one)

-- changes within, at the seam and behind it
pub changes_append : (one rest : List ℕ) → changes_of (one ++ rest) ≡ changes_of one + seam (last_in one) rest + changes_of rest
changes_append [] rest = omega arith
changes_append (seat ∷ []) rest = let whole = changes_first seat rest in omega (arith, whole)
changes_append (seat ∷ next ∷ path) rest =
    let whole = changes_first seat (next ∷ path ++ rest) in
    let part = changes_first seat (next ∷ path) in
    let more = changes_append (next ∷ path) rest in
    omega (arith, whole, part, more)

seam_by : (last next : ℕ) (rest : List ℕ) (same : Bool) → (last == next) ≡ same → seam (Some last) (next ∷ rest) ≤ 1
seam_by last next rest true is = rw is (omega arith)
seam_by last next rest false is = rw is (omega arith)

pub seam_once : (last : Option ℕ) (rest : List ℕ) → seam last rest ≤ 1
seam_once None rest = omega arith
seam_once (Some last) [] = omega arith
seam_once (Some last) (next ∷ rest) = seam_by last next rest (last == next) refl

-- fewer changes are as good, whatever the last seats
pub fewer_is_good : (one other : List ℕ) → changes_of one < changes_of other → IsAsGood one other
fewer_is_good one other fewer rest =
    let first = changes_append one rest in
    let second = changes_append other rest in
    let most = seam_once (last_in one) rest in
    omega (arith, fewer, first, second, most)

-- so are no more with the same last seat
pub same_is_good : (one other : List ℕ) → changes_of one ≤ changes_of other → last_in one ≡ last_in other → IsAsGood one other
same_is_good one other many last rest =
    let first = changes_append one rest in
    let second = changes_append other rest in
    let seams = ap (λ (last : Option ℕ). seam last rest) last in
    omega (arith, many, first, second, seams)

-- the last of some seats is at their end
last_behind : (path : List ℕ) (seat : ℕ) → slice_get (seat ∷ path) (length path) ≡ last_in (seat ∷ path)
last_behind [] seat = refl
last_behind (next ∷ path) seat = last_behind path next

pub last_at : (path : List ℕ) → slice_get path (length path - 1) ≡ last_in path
last_at [] = refl
last_at (seat ∷ path) =
    let place : suc (length path) - 1 ≡ length path = omega arith in
    ap (λ (place : ℕ). slice_get (seat ∷ path) place) place ∙ last_behind path seat

pub as_itself : (path : List ℕ) → IsAsGood path path
as_itself path rest = omega arith

pub as_good_both : (one other third : List ℕ) → IsAsGood one other → IsAsGood other third → IsAsGood one third
as_good_both one other third first second rest =
    let a = first rest in
    let b = second rest in
    omega (arith, a, b)

-- one more step
pub as_good_more : (one other more : List ℕ) → IsAsGood one other → IsAsGood (one ++ more) (other ++ more)
as_good_more one other more good rest =
    let whole = good (more ++ rest) in
    rw (append_assoc one more rest, append_assoc other more rest) whole

-- nothing follows
pub as_good_now : (one other : List ℕ) → IsAsGood one other → changes_of (one ++ []) ≤ changes_of (other ++ [])
as_good_now one other good = good []

-- the last seat with one more step
last_more : (path : List ℕ) (seat : ℕ) → last_in (path ++ seat ∷ []) ≡ Some seat
last_more [] seat = refl
last_more (first ∷ []) seat = refl
last_more (first ∷ next ∷ path) seat = last_more (next ∷ path) seat

-- with the same step more, no more changes are as good
pub fewest_more : (one other : List ℕ) (seat : ℕ) → changes_of (one ++ seat ∷ []) ≤ changes_of (other ++ seat ∷ [])
    → IsAsGood (one ++ seat ∷ []) (other ++ seat ∷ [])
fewest_more one other seat fewer = same_is_good (one ++ seat ∷ []) (other ++ seat ∷ []) fewer (last_more one seat ∙ sym (last_more other seat))

-- the changes with one more step
pub changes_more : (path : List ℕ) (seat : ℕ) → changes_of (path ++ seat ∷ []) ≡ changes_of path + seam (last_in path) (seat ∷ [])
changes_more path seat = let whole = changes_append path (seat ∷ []) in omega (arith, whole)

-- no more changes than steps
pub changes_few : (path : List ℕ) → changes_of path ≤ length path
changes_few [] = omega arith
changes_few (seat ∷ rest) =
    let whole = changes_first seat rest in
    let once = seam_once (Some seat) rest in
    let few = changes_few rest in
    omega (arith, whole, once, few)

-- what compares equal is equal
pub same_seats : (one other : Option ℕ) → option_eq (λ a b. a == b) one other ≡ true → one ≡ other
same_seats None None same = refl
same_seats None (Some seat) same = let no : false ≡ true = same in absurd (let never : ⊥ = cc in never)
same_seats (Some seat) None same = let no : false ≡ true = same in absurd (let never : ⊥ = cc in never)
same_seats (Some one) (Some other) same = ap (λ (seat : ℕ). Some seat) (eqb-true one other same)
