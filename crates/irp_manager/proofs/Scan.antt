-- A scan of the live packets, and of a range.
use Rattle.std.proofs.Common.{◌≡◌, ℕ, ◌+◌, ◌<◌, ◌≤◌, Bool, true, false, cond, ◌||◌, ◌&&◌, List, [], ◌∷◌, map, Some, None, zero, suc, refl, sym, ◌∙◌, ap, arith, inl, inr, T}
use Rattle.std.proofs.lemmas.Bool.{cases_eq, or_right}
use Rattle.std.proofs.lemmas.Option.{none-some, same_Some}
use Rattle.std.specs.List.{list_any, range_with_len}
use Rattle.std.specs.FinMap.{is_sorted, find}
use Rattle.std.specs.Ordering.{is_lt, is_eq}
use Rattle.std.specs.declared.cmp.Ordering.{Ordering}
use Rattle.std.specs.declared.cmp.Ordering.TheVariants.{Less, Equal, Greater}
use Rattle.std.specs.Ordering.{nat_cmp, eq_by_cmp}
use Rattle.std.specs.FinMap as fin
use Rattle.irp_manager.proofs.Maps.{here_same, here_other}

-- one that is found passes
found_any : {X : Type 0} (f : X → Bool) (es : List (ℕ × X)) (k : ℕ) (x : X) → fin.find nat_cmp k es ≡ Some x → f x ≡ true → list_any f (map (λ e. e.1) es) ≡ true
found_any f [] k x e h = absurd (none-some x e)
found_any {X} f (y ∷ ys) k x e h =
    elim (eq_by_cmp nat_cmp k y.0) as (λ b. cond b (Some y.1) (fin.find nat_cmp k ys) ≡ Some x → (f y.1 || list_any f (map (λ e. e.1) ys)) ≡ true) [
      | true ↦ λ i. let t : f y.1 ≡ true = ap f (same_Some y.1 x i) ∙ h in ap (λ b. b || list_any f (map (λ e. e.1) ys)) t
      | false ↦ λ i. or_true (f y.1) _ (found_any f ys k x i h)
    ] e
  where
    or_true : (a b : Bool) → b ≡ true → (a || b) ≡ true
    or_true true b h = refl
    or_true false b h = h

pub any_of : {X : Type 0} (f : X → Bool) (m : fin.FinMap nat_cmp X) (k : ℕ) (x : X) → fin.get m k ≡ Some x → f x ≡ true → list_any f (fin.values m) ≡ true
any_of f m k x e h = found_any f (fin.entries m) k x (sym (fin.get-entries m k) ∙ e) h

lt_not_eq : (o : Ordering) → T (is_lt o) → is_eq o ≡ false
lt_not_eq Less h = refl
lt_not_eq Equal h = absurd h
lt_not_eq Greater h = absurd h

left_of : (a b : Bool) → T (a && b) → T a
left_of true b h = tt
left_of false b h = h

right_of : (a b : Bool) → T (a && b) → T b
right_of true b h = h
right_of false b h = absurd h

both_of : (a b : Bool) → T a → T b → T (a && b)
both_of true b g h = h
both_of false b g h = absurd g

-- the key stands below each key
abbrev below : {X : Type 0} → ℕ → List (ℕ × X) → Bool
below a [] = true
below a (e ∷ es) = is_lt (nat_cmp a e.0) && below a es

-- the first key is not found behind it
first_absent : {X : Type 0} (es : List (ℕ × X)) (a : ℕ) (x : X) → T (is_sorted nat_cmp ((a, x) ∷ es)) → find nat_cmp a es ≡ None
first_absent [] a x h = refl
first_absent (e ∷ es) a x h =
    let low = left_of (below a (e ∷ es)) (is_sorted nat_cmp (e ∷ es)) h in
    let rest = right_of (below a (e ∷ es)) (is_sorted nat_cmp (e ∷ es)) h in
    ap (λ b. cond b (Some e.1) (find nat_cmp a es)) (lt_not_eq (nat_cmp a e.0) (left_of (is_lt (nat_cmp a e.0)) (below a es) low))
    ∙ first_absent es a x (both_of (below a es) (is_sorted nat_cmp es) (right_of (is_lt (nat_cmp a e.0)) (below a es) low) (right_of (below e.0 es) (is_sorted nat_cmp es) rest))

none_in : {X : Type 0} (f : X → Bool) (es : List (ℕ × X)) → T (is_sorted nat_cmp es) → ((k : ℕ) (x : X) → find nat_cmp k es ≡ Some x → f x ≡ false) → list_any f (map (λ e. e.1) es) ≡ false
none_in f [] s h = refl
none_in {X} f (e ∷ es) s h =
    let head : f e.1 ≡ false = h e.0 e.1 (ap (λ b. cond b (Some e.1) (find nat_cmp e.0 es)) (here_same e.0)) in
    let tail : list_any f (map (λ e. e.1) es) ≡ false = none_in f es (right_of (below e.0 es) (is_sorted nat_cmp es) s) (λ k x i.
    elim (cases_eq k e.0) as (λ _. f x ≡ false) [
      | inl same ↦ absurd (none-some x (sym (first_absent es e.0 e.1 s) ∙ ap (λ q. find nat_cmp q es) (sym same) ∙ i))
      | inr d ↦ h k x (ap (λ b. cond b (Some e.1) (find nat_cmp k es)) (here_other k e.0 d) ∙ i)
    ]) in
    (λ i. head i || tail i)

pub none_of : {X : Type 0} (f : X → Bool) (m : fin.FinMap nat_cmp X) → ((k : ℕ) (x : X) → fin.get m k ≡ Some x → f x ≡ false) → list_any f (fin.values m) ≡ false
none_of f m h = none_in f (fin.entries m) (fin.entries_sorted m) (λ k x e. h k x (fin.get-entries m k ∙ e))

pub range_none : (f : ℕ → Bool) (a n : ℕ) → ((k : ℕ) → a ≤ k → k < a + n → f k ≡ false) → list_any f (range_with_len a n) ≡ false
range_none f a zero h = refl
range_none f a (suc n) h =
    let head : f a ≡ false = h a (omega arith) (omega arith) in
    let tail : list_any f (range_with_len (a + 1) n) ≡ false = range_none f (a + 1) n (λ k l u. h k (omega arith) (omega arith)) in
    (λ i. head i || tail i)

pub range_some : (f : ℕ → Bool) (a n k : ℕ) → a ≤ k → k < a + n → f k ≡ true → list_any f (range_with_len a n) ≡ true
range_some f a zero k l u h = absurd (omega arith)
range_some f a (suc n) k l u h =
    elim (cases_eq k a) as (λ _. (f a || list_any f (range_with_len (a + 1) n)) ≡ true) [
      | inl e ↦ ap (λ b. b || list_any f (range_with_len (a + 1) n)) (ap f (sym e) ∙ h)
      | inr d ↦ or_right (f a) (list_any f (range_with_len (a + 1) n)) (range_some f (a + 1) n k (omega arith) (omega arith) h)
    ]
