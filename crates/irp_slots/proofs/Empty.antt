-- Where fresh owners and cancellers are all the parties of a table, its slots are empty and no flag is set.
use Rattle.std.proofs.Common.{◌≡◌, ℕ, zero, suc, ◌+◌, ◌-◌, ◌*◌, ◌%◌, ◌<◌, ◌≤◌, List, [], ◌∷◌, ◌++◌, length, All, slice_index, eq-eqb, refl, ap, ◌∙◌, arith}
use mathlib.Core.Logic.{dite}
use native.Mathlib.Decide.{ℕ_discrete}
use Rattle.atomic_table.specs.Seated.{TableId}
use Rattle.irp_slots.specs.declared.views.Owning.{Owning}
use Rattle.irp_slots.specs.declared.views.Asking.{Asking}
use Rattle.irp_slots.specs.declared.views.View.{View}
use Rattle.irp_slots.specs.declared.views.View.TheVariants.{First, Owner, Canceller}
use Rattle.irp_slots.specs.Core.{total, one_if, flag, resting, flagged, canceller_count, new_owning, new_canceller}
use Rattle.irp_slots.specs.Models.{Publisher, Asker}
use Rattle.irp_slots.specs.Opening.{parties_of, new_ownings, AreFreshOwners, IsFreshCanceller, owner_views, canceller_views, views_of, AreAmong, IsAllEmpty}
use Rattle.irp_slots.proofs.Totals.{one_if_le}
use Rattle.irp_slots.proofs.Making.{none_flagged}

total_append : (f : View → ℕ) (xs ys : List View) → total f (xs ++ ys) ≡ total f xs + total f ys
total_append f [] ys = omega arith
total_append f (x ∷ xs) ys = let rest = total_append f xs ys in omega arith

among_le : (f : View → ℕ) (some all : List View) → AreAmong some all → total f some ≤ total f all
among_le f [] all among = omega arith
among_le f (v ∷ vs) all among =
    let before = among.0 in
    let after = among.1 in
    let is : total f all ≡ total f (before ++ v ∷ after) = ap (total f) among.2 in
    let whole = total_append f before (v ∷ after) in
    let without = total_append f before after in
    let rest = among_le f vs (before ++ after) among.3 in
    omega arith

module _ (f g : View → ℕ) (le : (v : View) → f v ≤ g v) where
  part_and_rest : (views : List View) → total f views + total (λ v. g v - f v) views ≡ total g views
  part_and_rest [] = omega arith
  part_and_rest (v ∷ vs) = let here = le v in let rest = part_and_rest vs in omega arith

  -- what is counted of some, where these are all of their kind
  same_among : (some all : List View) → AreAmong some all → total g some ≡ total g all → total f some ≡ total f all
  same_among some all among same =
      let a = among_le f some all among in
      let b = among_le (λ v. g v - f v) some all among in
      let c = part_and_rest some in
      let d = part_and_rest all in
      omega arith

canceller_total : (f : View → ℕ) (t : TableId) (cs : List Asker) → All (IsFreshCanceller t) cs → total f (canceller_views cs) ≡ length cs * f new_canceller
canceller_total f t [] all = omega arith
canceller_total f t (c ∷ cs) all =
    let here : f (Canceller c.asking) ≡ f new_canceller = ap (λ (a : Asking). f (Canceller a)) (all 0 c (omega arith)).1 in
    let rest = canceller_total f t cs (λ k d less. all (suc k) d (omega arith)) in
    omega arith

owner_snoc : (f : View → ℕ) (os : List Owning) (o : Owning) → total f (owner_views (os ++ o ∷ [])) ≡ total f (owner_views os) + f (Owner o)
owner_snoc f [] o = omega arith
owner_snoc f (x ∷ os) o = let rest = owner_snoc f os o in omega arith

some_rest : (slot n : ℕ) → slot < n → 0 < total (resting slot) (owner_views (new_ownings n))
some_rest slot zero less = absurd (omega arith)
some_rest slot (suc n) less =
    let last = owner_snoc (resting slot) (new_ownings n) (new_owning n) in
    dite (ℕ_discrete n slot)
    (λ e. let here : resting slot (Owner (new_owning n)) ≡ 1 = ap one_if (eq-eqb n slot e) in omega arith)
    (λ ne. let rest = some_rest slot n (omega arith) in omega arith)

owners_none : (f : View → ℕ) → ((slot : ℕ) → f (Owner (new_owning slot)) ≡ 0) → (n : ℕ) → total f (owner_views (new_ownings n)) ≡ 0
owners_none f none zero = omega arith
owners_none f none (suc n) = let last = owner_snoc f (new_ownings n) (new_owning n) in let here = none n in let rest = owners_none f none n in omega arith

flagged_le : (slot : ℕ) (v : View) → flagged slot v ≤ canceller_count v
flagged_le slot (First os n) = omega arith
flagged_le slot (Owner o) = omega arith
flagged_le slot (Canceller a) = one_if_le (flag a.flagged slot)

pub all_empty : (t : TableId) (slots : ℕ) (ps : List Publisher) (cs : List Asker) → AreFreshOwners t slots ps → All (IsFreshCanceller t) cs → IsAllEmpty (parties_of slots (length cs)) ps cs
all_empty t slots ps cs fresh unused state r among slot inside =
    let os : List View = owner_views (new_ownings slots) in
    let vs = views_of ps cs in
    let parts : (f : View → ℕ) → total f vs ≡ total f os + length cs * f new_canceller = λ f.
    total_append f _ (canceller_views cs) ∙ (λ i. total f (owner_views (fresh.1 i)) + canceller_total f t cs unused i) in
    let rested = some_rest slot slots inside in
    let a = among_le (resting slot) vs state.views among in
    let b = parts (resting slot) in
    let c = parts canceller_count in
    let d = owners_none canceller_count (λ k. refl) slots in
    let e : total canceller_count vs ≡ total canceller_count state.views = omega arith in
    let f = same_among (flagged slot) canceller_count (flagged_le slot) vs state.views among e in
    let g = parts (flagged slot) in
    let h = owners_none (flagged slot) (λ k. refl) slots in
    let z : flagged slot new_canceller ≡ 0 = none_flagged slot in
    let zeros : length cs * flagged slot new_canceller ≡ 0 = ap (λ n. length cs * n) z ∙ omega arith in (
      r.rests slot inside (omega arith),
      dite (ℕ_discrete (slice_index state.words (2 * slot) % 2) 1) (λ odd. let some = r.flag_only slot inside odd in absurd (omega arith)) (λ ne. omega arith),
    )
