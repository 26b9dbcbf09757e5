-- What regrouping leaves of stacks, what a changed record leaves of the others, and when devices keep their place.
use Rattle.std.proofs.Common.{◌≡◌, ℕ, ◌+◌, ◌-◌, ◌<◌, ◌≤◌, ◌≢◌, zero, suc, List, [], ◌∷◌, length, set, map, fold, refl, sym, ◌∙◌, ap, subst, arith, inl, inr, ◌⊎◌}
use Rattle.std.proofs.lemmas.Bool.{cases_eq}
use Rattle.std.proofs.lemmas.List.{get_or-set_same, get_or-set_other, length-set}
use Rattle.irp_stack.specs.declared.device.Device.{Device}
use Rattle.irp_stack.specs.Records.{record_of, member_at, list_of, blank, edit, DescribesStack, IsPlaced}

-- a device is a member of a stack, or is none
abbrev pub IsIn : List ℕ → ℕ → Type 0
IsIn s d = (k : ℕ) × (k < length s) × (member_at s k ≡ d)

abbrev pub IsOut : List ℕ → ℕ → Type 0
IsOut s d = (k : ℕ) → k < length s → member_at s k ≢ d

out_cons : (member : ℕ) (stack : List ℕ) (device : ℕ) → (member ≡ device → ⊥) → IsOut stack device → IsOut (member ∷ stack) device
out_cons x s d ne out zero h = ne
out_cons x s d ne out (suc k) h = let lt : k < length s = omega (arith, h) in out k lt

pub find_place : (stack : List ℕ) (device : ℕ) → IsIn stack device ⊎ IsOut stack device
find_place [] d = inr (λ k h. absurd (omega (arith, h)))
find_place (x ∷ s) d =
    elim (cases_eq x d) as (λ _. IsIn (x ∷ s) d ⊎ IsOut (x ∷ s) d) [
      | inl e ↦ inl (0, omega arith, e)
      | inr ne ↦ elim (find_place s d) as (λ _. IsIn (x ∷ s) d ⊎ IsOut (x ∷ s) d) [
        | inl w ↦ inl (suc w.0, omega (arith, w.1), w.2)
        | inr out ↦ inr (out_cons x s d ne out)
      ]
    ]

pub regrouped_length : (stacks : List (List ℕ)) (stack members : List ℕ)
    → length (fold (λ all member. set all member stack) stacks members) ≡ length stacks
regrouped_length S t [] = refl
regrouped_length S t (x ∷ s) = regrouped_length (set S x t) t s ∙ length-set S x t

pub regrouped_out : (stacks : List (List ℕ)) (stack members : List ℕ) (device : ℕ) → IsOut members device
    → list_of (fold (λ all member. set all member stack) stacks members) device ≡ list_of stacks device
regrouped_out S t [] d out = refl
regrouped_out S t (x ∷ s) d out =
    let ne : d ≢ x = λ e. out 0 (omega arith) (sym e) in
    regrouped_out (set S x t) t s d (λ k h. out (suc k) (omega (arith, h))) ∙ get_or-set_other S x d t [] ne

pub regrouped_in : (stacks : List (List ℕ)) (stack members : List ℕ) (place : ℕ) → place < length members → member_at members place < length stacks
    → list_of (fold (λ all member. set all member stack) stacks members) (member_at members place) ≡ stack
regrouped_in S t [] k h lt = absurd (omega (arith, h))
regrouped_in S t (x ∷ s) (suc k) h lt =
    let l : member_at s k < length (set S x t) = omega (arith, lt, length-set S x t) in
    regrouped_in (set S x t) t s k (omega (arith, h)) l
regrouped_in S t (x ∷ s) zero h lt =
    elim (find_place s x) as (λ _. list_of (fold (λ all e. set all e t) (set S x t) s) x ≡ t) [
      | inl w ↦
          let l : member_at s w.0 < length (set S x t) = subst (λ n. n < length (set S x t)) (sym w.2) (omega (arith, lt, length-set S x t)) in
          ap (λ n. list_of (fold (λ all e. set all e t) (set S x t) s) n) (sym w.2) ∙ regrouped_in (set S x t) t s w.0 w.1 l
      | inr out ↦ regrouped_out (set S x t) t s x out ∙ get_or-set_same S x t [] lt
    ]

-- what a change of one record keeps
pub edit_length : (records : List Device) (device : ℕ) (change : Device → Device) → length (edit records device change) ≡ length records
edit_length R i g = length-set R i _

pub edit_here : (records : List Device) (device : ℕ) (change : Device → Device) → device < length records
    → record_of (edit records device change) device ≡ change (record_of records device)
edit_here R i g h = get_or-set_same R i (g (record_of R i)) blank h

pub edit_else : (records : List Device) (device other : ℕ) (change : Device → Device) → other ≢ device
    → record_of (edit records device change) other ≡ record_of records other
edit_else R i e g ne = get_or-set_other R i e (g (record_of R i)) blank ne

pub edit_keeps : {Part : Type 0} (read : Device → Part) (change : Device → Device) → ((own : Device) → read (change own) ≡ read own)
    → (records : List Device) (device other : ℕ) → read (record_of (edit records device change) other) ≡ read (record_of records other)
edit_keeps f g inv [] i e = refl
edit_keeps f g inv (x ∷ R) zero zero = inv x
edit_keeps f g inv (x ∷ R) zero (suc e) = refl
edit_keeps f g inv (x ∷ R) (suc i) zero = refl
edit_keeps f g inv (x ∷ R) (suc i) (suc e) = edit_keeps f g inv R i e

pub edit_maps : {Part : Type 0} (read : Device → Part) (change : Device → Device) → ((own : Device) → read (change own) ≡ read own)
    → (records : List Device) (device : ℕ) → map read (edit records device change) ≡ map read records
edit_maps f g inv [] i = refl
edit_maps f g inv (x ∷ R) zero = ap (λ y. y ∷ map f R) (inv x)
edit_maps f g inv (x ∷ R) (suc i) = ap (λ ys. f x ∷ ys) (edit_maps f g inv R i)

-- a stack whose members' records stay the same
line_kept : (records changed : List Device) (stack : List ℕ) → DescribesStack records stack → length records ≤ length changed
    → ((place : ℕ) → place < length stack → record_of changed (member_at stack place) ≡ record_of records (member_at stack place))
    → DescribesStack changed stack
line_kept R M s l long e =
    let h0 : 0 < length s = l.some in
    let hl : length s - 1 < length s = omega (arith, l.some) in
    record {
      some = l.some;
      few = l.few;
      known = λ k h. omega (arith, l.known k h, long);
      size = λ k h. ap (λ (r : Device). r.size) (e k h) ∙ l.size k h;
      first = ap (λ (r : Device). r.lower) (e 0 h0) ∙ l.first;
      lower = λ k h. ap (λ (r : Device). r.lower) (e (k + 1) h) ∙ l.lower k h;
      upper = λ k h. let h1 : k < length s = omega (arith, h) in ap (λ (r : Device). r.upper) (e k h1) ∙ l.upper k h;
      last = ap (λ (r : Device). r.upper) (e (length s - 1) hl) ∙ l.last;
      bottom = λ k h. ap (λ (r : Device). r.bottom) (e k h) ∙ l.bottom k h;
      top = ap (λ (r : Device). r.top) (e 0 h0) ∙ l.top;
      live = λ k m h. ap (λ (r : Device). r.live) (e k h) ∙ l.live k m h;
    }

-- a device in a stack that its records describe
pub placed_in : (changed : List Device) (restacked : List (List ℕ)) (stack : List ℕ) (device : ℕ) → DescribesStack changed stack → IsIn stack device
    → ((place : ℕ) → place < length stack → list_of restacked (member_at stack place) ≡ stack) → IsPlaced changed restacked device
placed_in M T s d l w all =
    let here : list_of T d ≡ s = ap (λ n. list_of T n) (sym w.2) ∙ all w.0 w.1 in
    let size : (record_of M d).size ≡ w.0 + 1 = ap (λ n. (record_of M n).size) (sym w.2) ∙ l.size w.0 w.1 in
    let at : (record_of M d).size - 1 ≡ w.0 = omega (arith, size) in
    let b1 : (record_of M d).size ≤ length s = omega (arith, size, w.1) in
    record {
      line = subst (DescribesStack M) (sym here) l;
      same = subst (λ t. (k : ℕ) → k < length t → list_of T (member_at t k) ≡ t) (sym here) all;
      some = omega (arith, size);
      within = subst (λ t. (record_of M d).size ≤ length t) (sym here) b1;
      own = (λ i. member_at (here i) (at i)) ∙ w.2;
    }

-- a device of whose stack nothing changed
pub placed_kept : (records changed : List Device) (stacks restacked : List (List ℕ)) (device : ℕ) → IsPlaced records stacks device
    → length records ≤ length changed
    → ((place : ℕ) → place < length (list_of stacks device) → record_of changed (member_at (list_of stacks device) place) ≡ record_of records (member_at (list_of stacks device) place))
    → ((place : ℕ) → place < length (list_of stacks device) → list_of restacked (member_at (list_of stacks device) place) ≡ list_of stacks (member_at (list_of stacks device) place))
    → IsPlaced changed restacked device
placed_kept R M S T d p long records lists =
    let lt : (record_of R d).size - 1 < length (list_of S d) = omega (arith, p.within, p.some) in
    placed_in M T (list_of S d) d (line_kept R M (list_of S d) p.line long records) ((record_of R d).size - 1, lt, p.own)
    (λ k h. lists k h ∙ p.same k h)
