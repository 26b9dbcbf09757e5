-- How a table begins, and how the first party makes the others.
use Rattle.std.proofs.Common.{◌≡◌, ℕ, zero, suc, ◌+◌, ◌-◌, ◌*◌, ◌<◌, ◌≤◌, Bool, true, false, eqb, eq-eqb, ne_eqb, List, [], ◌∷◌, ◌++◌, length, All, get_or, set, replicate, if◌then◌else◌, refl, sym, ap, ◌∙◌, subst, arith}
use Rattle.std.proofs.lemmas.Bool.{false≢true}
use Rattle.std.proofs.lemmas.List.Elements.{All-set, All-append}
use mathlib.Core.Logic.{dite}
use mathlib.Core.Option.{some}
use native.Mathlib.Decide.{ℕ_discrete}
use lib.ListN.{get_elem?}
use Rattle.atomic_table.specs.Table.{State, Splits}
use Rattle.irp_slots.specs.declared.views.View.{View}
use Rattle.irp_slots.specs.declared.views.View.TheVariants.{First}
use Rattle.irp_slots.specs.declared.views.Parties.{Parties}
use Rattle.irp_slots.specs.Core.{total, one_if, flag, times, owns, published, taken, resting, standing, flagged, ended, found_flagged, canceller_count, IsInOrder, Kept, span, at_first, one_owner_less, next_owner, one_canceller_less, new_canceller}
use Rattle.irp_slots.proofs.Totals.{total_set, total_snoc}

abbrev St : Type 0
St = State (Unit {0}) View

-- a view is cut in two, and all counts are those of the two parts together
record Cut (v left right : View) : Type 0 where
  owned : (k : ℕ) → owns k v ≡ owns k left + owns k right
  posted : (k number : ℕ) → published k number v ≡ published k number left + published k number right
  had : (k number : ℕ) → taken k number v ≡ taken k number left + taken k number right
  rested : (k : ℕ) → resting k v ≡ resting k left + resting k right
  stood : (k : ℕ) → standing k v ≡ standing k left + standing k right
  asked : (k : ℕ) → flagged k v ≡ flagged k left + flagged k right
  done : (k : ℕ) → ended k v ≡ ended k left + ended k right
  saw_it : (k : ℕ) → found_flagged k v ≡ found_flagged k left + found_flagged k right
  counted : canceller_count v ≡ canceller_count left + canceller_count right
  left_order : IsInOrder left
  right_order : IsInOrder right

one_all : (v : View) → IsInOrder v → All IsInOrder (v ∷ [])
one_all v order zero d less = order
one_all v order (suc k) d less = absurd (omega arith)

module _ (key : Parties) (id : ℕ) (v left right : View) (cut : Cut v left right) where
  module _ (s : St) (at : get_elem? s.views id ≡ some v) (f : View → ℕ) where
    split_total : f v ≡ f left + f right → total f (set s.views id left ++ right ∷ []) ≡ total f s.views
    split_total even = let a = total_set f s.views id v left at in let b = total_snoc f (set s.views id left) right in omega arith

  splits : Splits (Kept key) id v left right
  splits s r at = record {
    wide = r.wide;
    one_owner = λ k less. split_total s at (owns k) (cut.owned k) ∙ r.one_owner k less;
    places = λ k number less some_use.
        let was = r.places k number less some_use in
        let a = split_total s at (taken k number) (cut.had k number) in
        let b = split_total s at (published k number) (cut.posted k number) in
        omega arith;
    rests = λ k less h. let a = split_total s at (resting k) (cut.rested k) in r.rests k less (omega arith);
    flag_set = λ k less h. let a = split_total s at (flagged k) (cut.asked k) in r.flag_set k less (omega arith);
    flag_only = λ k less odd. let a = split_total s at (flagged k) (cut.asked k) in let was = r.flag_only k less odd in omega arith;
    in_order = All-append IsInOrder (set s.views id left) (right ∷ []) (All-set IsInOrder s.views id left cut.left_order r.in_order) (one_all right cut.right_order);
    found = λ k less h. let a = split_total s at (found_flagged k) (cut.saw_it k) in r.found k less (omega arith);
    stands = λ k less h g. let a = split_total s at (standing k) (cut.stood k) in let b = split_total s at (ended k) (cut.done k) in r.stands k less (omega arith) (omega arith);
    all_cancellers = split_total s at canceller_count cut.counted ∙ r.all_cancellers;
    few_slots = r.few_slots;
    few_cancellers = r.few_cancellers;
  }

either_zero : (b : Bool) → (if b then zero else zero) ≡ 0
either_zero true = refl
either_zero false = refl

pub owner_made : (key : Parties) (id slot n : ℕ) (os : List ℕ) (v : View) → v ≡ First (slot ∷ os) n → Splits (Kept key) id v (one_owner_less v) (next_owner v)
owner_made key id slot n os v is = subst (λ (z : View). Splits (Kept key) id z (one_owner_less z) (next_owner z)) (sym is)
    (splits key id (First (slot ∷ os) n) (First os n) (next_owner (First (slot ∷ os) n)) (record {
      owned = λ k. omega arith;
      posted = λ k number. refl;
      had = λ k number. let z : taken k number (next_owner (First (slot ∷ os) n)) ≡ 0 = either_zero (eqb slot k) in omega arith;
      rested = λ k. omega arith;
      stood = λ k. refl;
      asked = λ k. refl;
      done = λ k. refl;
      saw_it = λ k. refl;
      counted = omega arith;
      left_order = tt;
      right_order = refl;
    }))

false_at : (n k : ℕ) → flag (replicate n false) k ≡ false
false_at zero k = refl
false_at (suc n) zero = refl
false_at (suc n) (suc k) = false_at n k

pub none_flagged : (k : ℕ) → flagged k new_canceller ≡ 0
none_flagged k = ap one_if (false_at 64 k)

pub canceller_made : (key : Parties) (id n : ℕ) (os : List ℕ) (v : View) → v ≡ First os n → 0 < n → Splits (Kept key) id v (one_canceller_less v) new_canceller
canceller_made key id n os v is some_left = subst (λ (z : View). Splits (Kept key) id z (one_canceller_less z) new_canceller) (sym is)
    (splits key id (First os n) (First os (n - 1)) new_canceller (record {
      owned = λ k. omega arith;
      posted = λ k number. refl;
      had = λ k number. refl;
      rested = λ k. omega arith;
      stood = λ k. refl;
      asked = λ k. let z : flagged k new_canceller ≡ 0 = ap one_if (false_at 64 k) in omega arith;
      saw_it = λ k. refl;
      done = λ k. let z : ended k new_canceller ≡ 0 = ap one_if (false_at 64 k) in omega arith;
      counted = omega arith;
      left_order = tt;
      right_order = λ k. (λ e. absurd (false≢true (sym (false_at 64 k) ∙ e)), λ number some_use. absurd (omega arith));
    }))

pub span_step : (slot count : ℕ) → slot < count → span slot (count - slot) ≡ slot ∷ span (slot + 1) (count - (slot + 1))
span_step slot count less = let e : count - slot ≡ suc (count - (slot + 1)) = omega arith in ap (span slot) e

times_before : (slot start n : ℕ) → slot < start → times slot (span start n) ≡ 0
times_before slot start zero less = refl
times_before slot start (suc n) less =
    let here : one_if (eqb start slot) ≡ 0 = ap one_if (ne_eqb start slot (λ e. absurd (omega arith))) in
    let rest = times_before slot (start + 1) n (omega arith) in
    omega arith

times_span : (slot start n : ℕ) → start ≤ slot → slot < start + n → times slot (span start n) ≡ 1
times_span slot start zero le less = absurd (omega arith)
times_span slot start (suc n) le less = dite (ℕ_discrete start slot)
    (λ e.
    let here : one_if (eqb start slot) ≡ 1 = ap one_if (eq-eqb start slot e) in
    let rest = times_before slot (start + 1) n (omega arith) in
    omega arith)
    (λ ne.
    let here : one_if (eqb start slot) ≡ 0 = ap one_if (ne_eqb start slot ne) in
    let rest = times_span slot (start + 1) n (omega arith) (omega arith) in
    omega arith)

-- at the start every word is 0
pub at_opening : (key : Parties) (words : List ℕ) → length words ≡ 2 * key.slots + 1 → ((k : ℕ) → get_or words k 0 ≡ 0) → key.slots ≤ 64 → key.cancellers ≤ 64
    → Kept key (record { words = words; homes = []; views = at_first key ∷ [] })
at_opening key words wide zeros few_s few_c = record {
  wide = wide;
  one_owner = λ k less. let t = times_span k 0 key.slots (omega arith) (omega arith) in omega arith;
  places = λ k number less some_use.
      let c : one_if (eqb (get_or words (2 * k + 1) 0) number) ≡ 0 = ap (λ (z : ℕ). one_if (eqb z number)) (zeros (2 * k + 1)) ∙ ap one_if (ne_eqb 0 number (λ e. absurd (omega arith))) in
      omega arith;
  rests = λ k less h. zeros (2 * k + 1);
  flag_set = λ k less h. absurd (omega arith);
  flag_only = λ k less odd. let z = zeros (2 * k) in absurd (omega arith);
  in_order = one_all (at_first key) tt;
  found = λ k less h. absurd (omega arith);
  stands = λ k less h g. zeros (2 * k + 1);
  all_cancellers = omega arith;
  few_slots = few_s;
  few_cancellers = few_c;
}

pub zero_words : (words : List ℕ) (n k : ℕ) → words ≡ replicate n zero → get_or words k zero ≡ zero
zero_words words n k is = ap (λ (ws : List ℕ). get_or ws k zero) is ∙ zeros n k
  where
    zeros : (n k : ℕ) → get_or (replicate n zero) k zero ≡ zero
    zeros zero k = refl
    zeros (suc n) zero = refl
    zeros (suc n) (suc k) = zeros n k
