-- Sums over the views of all seats.
use Rattle.std.proofs.Common.{◌≡◌, ℕ, zero, suc, ◌+◌, ◌≤◌, Bool, true, false, ◌&&◌, eqb, List, [], ◌∷◌, ◌++◌, set, All, refl, sym, ap, subst, arith}
use mathlib.Core.Option.{some, some-injective, some-ne-none}
use lib.ListN.{get_elem?}
use Rattle.irp_slots.specs.declared.views.Stage.{Stage}
use Rattle.irp_slots.specs.declared.views.Stage.TheVariants.{Idle, Published, Standing, Done}
use Rattle.irp_slots.specs.declared.views.View.{View}
use Rattle.irp_slots.specs.declared.views.View.TheVariants.{First, Owner, Canceller}
use Rattle.irp_slots.specs.Core.{total, one_if, flag, is_resting, is_begun, is_standing, owns, published, resting, standing, flagged, ended, IsInOrder}

pub one_if_le : (b : Bool) → one_if b ≤ 1
one_if_le true = omega arith
one_if_le false = omega arith

pub total_set : (f : View → ℕ) (views : List View) (id : ℕ) (v w : View) → get_elem? views id ≡ some v → total f (set views id w) + f v ≡ total f views + f w
total_set f [] id v w at = absurd (some-ne-none v (sym at))
total_set f (x ∷ xs) zero v w at = let same : f x ≡ f v = ap f (some-injective x v at) in omega arith
total_set f (x ∷ xs) (suc id) v w at = let rest = total_set f xs id v w at in omega arith

pub same_total : (f : View → ℕ) (views : List View) (id : ℕ) (v w : View) → get_elem? views id ≡ some v → f w ≡ f v → total f (set views id w) ≡ total f views
same_total f views id v w at e = let t = total_set f views id v w at in omega arith

pub part_of_total : (f : View → ℕ) (views : List View) (id : ℕ) (v : View) → get_elem? views id ≡ some v → f v ≤ total f views
part_of_total f [] id v at = absurd (some-ne-none v (sym at))
part_of_total f (x ∷ xs) zero v at = let same : f x ≡ f v = ap f (some-injective x v at) in omega arith
part_of_total f (x ∷ xs) (suc id) v at = let rest = part_of_total f xs id v at in omega arith

pub all_at : (P : View → Type 0) (views : List View) (id : ℕ) (v : View) → get_elem? views id ≡ some v → All P views → P v
all_at P [] id v at all = absurd (some-ne-none v (sym at))
all_at P (x ∷ xs) zero v at all = subst P (some-injective x v at) (all 0 x (omega arith))
all_at P (x ∷ xs) (suc id) v at all = all_at P xs id v at (λ k d less. all (suc k) d (omega arith))

-- whoever has ended a request on a slot has set its flag
ended_view : (slot : ℕ) (v : View) → IsInOrder v → ended slot v ≤ flagged slot v
ended_view slot (First os n) order = omega arith
ended_view slot (Owner o) order = omega arith
ended_view slot (Canceller a) order = follows (flag a.ended slot) (flag a.flagged slot) (order slot).0
  where
    follows : (b c : Bool) → (b ≡ true → c ≡ true) → one_if b ≤ one_if c
    follows false c if_so = omega arith
    follows true c if_so = let one : one_if c ≡ 1 = ap one_if (if_so refl) in omega arith

pub ended_flagged : (slot : ℕ) (views : List View) → All IsInOrder views → total (ended slot) views ≤ total (flagged slot) views
ended_flagged slot [] all = omega arith
ended_flagged slot (x ∷ xs) all =
    let here = ended_view slot x (all 0 x (omega arith)) in
    let rest = ended_flagged slot xs (λ k d less. all (suc k) d (omega arith)) in
    omega arith

-- a slot has one owner, which rests or stands or neither
stage_parts : (stage : Stage) (b : Bool) → one_if (is_resting stage && b) + one_if (is_standing stage && b) ≤ one_if b
stage_parts Idle b = omega arith
stage_parts Published b = omega arith
stage_parts Standing b = omega arith
stage_parts Done b = omega arith

view_parts : (slot : ℕ) (v : View) → resting slot v + standing slot v ≤ owns slot v
view_parts slot (First os n) = omega arith
view_parts slot (Owner o) = stage_parts o.stage (eqb o.slot slot)
view_parts slot (Canceller a) = omega arith

pub rest_or_stand : (slot : ℕ) (views : List View) → total (resting slot) views + total (standing slot) views ≤ total (owns slot) views
rest_or_stand slot [] = omega arith
rest_or_stand slot (x ∷ xs) = let here = view_parts slot x in let rest = rest_or_stand slot xs in omega arith

pub published_view : (slot number : ℕ) (v : View) → published slot number v ≤ owns slot v
published_view slot number (First os n) = omega arith
published_view slot number (Owner o) = part (is_begun o.stage) (eqb o.slot slot) (eqb o.published number)
  where
    part : (a b c : Bool) → one_if (a && (b && c)) ≤ one_if b
    part true true true = omega arith
    part true true false = omega arith
    part true false c = omega arith
    part false b c = omega arith
published_view slot number (Canceller a) = omega arith

pub published_owned : (slot number : ℕ) (views : List View) → total (published slot number) views ≤ total (owns slot) views
published_owned slot number [] = omega arith
published_owned slot number (x ∷ xs) = let here = published_view slot number x in let rest = published_owned slot number xs in omega arith

all_le : (f g : View → ℕ) → ((v : View) → f v ≤ g v) → (views : List View) → total f views ≤ total g views
all_le f g le [] = omega arith
all_le f g le (x ∷ xs) = let here = le x in let rest = all_le f g le xs in omega arith

-- where one counts at least as the other, and the one is counted at this view, little of the other is left elsewhere
pub alone : (f g : View → ℕ) → ((v : View) → f v ≤ g v) → (views : List View) (id : ℕ) (v : View) → get_elem? views id ≡ some v → total f views + g v ≤ total g views + f v
alone f g le [] id v at = absurd (some-ne-none v (sym at))
alone f g le (x ∷ xs) zero v at =
    let same_f : f x ≡ f v = ap f (some-injective x v at) in
    let same_g : g x ≡ g v = ap g (some-injective x v at) in
    let rest = all_le f g le xs in
    omega arith
alone f g le (x ∷ xs) (suc id) v at = let here = le x in let rest = alone f g le xs id v at in omega arith

pub total_snoc : (f : View → ℕ) (views : List View) (v : View) → total f (views ++ v ∷ []) ≡ total f views + f v
total_snoc f [] v = omega arith
total_snoc f (x ∷ xs) v = let rest = total_snoc f xs v in omega arith
