-- Facts on lists of numbers in a row, and on the last of some values.
use Rattle.std.proofs.Common.{◌≡◌, ℕ, ◌+◌, zero, suc, ◌-◌, ◌<◌, ◌≤◌, Bool, true, false, cond, List, [], ◌∷◌, ◌++◌, length, get_or, map, filter, refl, ap, arith, Option, Some, None, unwrap_or}
use Rattle.std.specs.List.{list_any, filter_map, range_with_len, cons_option, AllByRecursion}
use Rattle.irp_types.specs.Unwinding.{from_to, last_from}
use Rattle.irp_types.specs.declared.answer.Replacement.{Replacement}

pub from_to-cons : (a b : ℕ) → a ≤ b → from_to a b ≡ a ∷ from_to (a + 1) b
from_to-cons a b h =
    let e : (b + 1) - a ≡ suc ((b + 1) - (a + 1)) = omega arith in
    ap (λ n. range_with_len a n) e

pub from_to-last : (b : ℕ) → from_to (b + 1) b ≡ []
from_to-last b = let e : (b + 1) - (b + 1) ≡ 0 = omega arith in ap (λ n. range_with_len (b + 1) n) e

pub filter_range_same : (f g : ℕ → Bool) (a n : ℕ) → ((k : ℕ) → a ≤ k → f k ≡ g k) → filter f (range_with_len a n) ≡ filter g (range_with_len a n)
filter_range_same f g a zero same = refl
filter_range_same f g a (suc n) same =
    let rest : filter f (range_with_len (a + 1) n) ≡ filter g (range_with_len (a + 1) n) = filter_range_same f g (a + 1) n (λ k h. same k (omega arith)) in
    let here : f a ≡ g a = same a (omega arith) in
    rw (here, rest) refl

pub any_range_same : (f g : ℕ → Bool) (a n : ℕ) → ((k : ℕ) → a ≤ k → f k ≡ g k) → list_any f (range_with_len a n) ≡ list_any g (range_with_len a n)
any_range_same f g a zero same = refl
any_range_same f g a (suc n) same =
    let rest : list_any f (range_with_len (a + 1) n) ≡ list_any g (range_with_len (a + 1) n) = any_range_same f g (a + 1) n (λ k h. same k (omega arith)) in
    let here : f a ≡ g a = same a (omega arith) in
    rw (here, rest) refl

-- where what the items are seen as was kept of numbers from a on, each is at least a
pub above_start : {X : Type 0} (place_of : X → ℕ) (f : ℕ → Bool) (a n : ℕ) (xs : List X) → map place_of xs ≡ filter f (range_with_len a n) → AllByRecursion (λ x. a ≤ place_of x) xs
above_start place_of f a n [] e = tt
above_start place_of f a zero (x ∷ xs) e = absurd (cc)
above_start {X} place_of f a (suc n) (x ∷ xs) e =
    elim (f a) as (λ b. f a ≡ b → place_of x ∷ map place_of xs ≡ cond b (a ∷ filter f (range_with_len (a + 1) n)) (filter f (range_with_len (a + 1) n)) → (a ≤ place_of x) × AllByRecursion (λ x. a ≤ place_of x) xs) [
      | true ↦ λ t q.
          let first : place_of x ≡ a = cc in
          let others : map place_of xs ≡ filter f (range_with_len (a + 1) n) = cc in
          (omega arith, weaker place_of a (a + 1) (omega arith) xs (above_start place_of f (a + 1) n xs others))
      | false ↦ λ t q.
          let all : AllByRecursion (λ x. a + 1 ≤ place_of x) (x ∷ xs) = above_start place_of f (a + 1) n (x ∷ xs) q in
          (omega (arith, all.0), weaker place_of a (a + 1) (omega arith) xs all.1)
    ] refl e
  where
    weaker : {X : Type 0} (place_of : X → ℕ) (a b : ℕ) → a ≤ b → (xs : List X) → AllByRecursion (λ x. b ≤ place_of x) xs → AllByRecursion (λ x. a ≤ place_of x) xs
    weaker place_of a b h [] all = tt
    weaker place_of a b h (x ∷ xs) all = (omega (arith, all.0), weaker place_of a b h xs all.1)

pub last_from-cons_option : (start : Replacement) (o : Option Replacement) (rs : List Replacement) → last_from start (cons_option o rs) ≡ last_from (unwrap_or o start) rs
last_from-cons_option start None rs = refl
last_from-cons_option start (Some r) rs = refl

-- nothing is kept where the test gives nothing at each item
pub filter_map-none : {X Y : Type 0} (h : X → Option Y) (xs : List X) → AllByRecursion (λ x. h x ≡ None) xs → filter_map h xs ≡ []
filter_map-none h [] all = refl
filter_map-none h (x ∷ xs) all = let e : h x ≡ None = all.0 in rw (e, filter_map-none h xs all.1) refl

pub all_map : {X : Type 0} (P Q : X → Type 0) → ((x : X) → P x → Q x) → (xs : List X) → AllByRecursion P xs → AllByRecursion Q xs
all_map P Q f [] all = tt
all_map P Q f (x ∷ xs) all = (f x all.0, all_map P Q f xs all.1)

pub all_both : {X : Type 0} (P Q : X → Type 0) (xs : List X) → AllByRecursion P xs → AllByRecursion Q xs → AllByRecursion (λ x. P x × Q x) xs
all_both P Q [] p q = tt
all_both P Q (x ∷ xs) p q = ((p.0, q.0), all_both P Q xs p.1 q.1)

pub all_append : {X : Type 0} (P : X → Type 0) (xs ys : List X) → AllByRecursion P xs → AllByRecursion P ys → AllByRecursion P (xs ++ ys)
all_append P [] ys a b = b
all_append P (x ∷ xs) ys a b = (a.0, all_append P xs ys a.1 b)

pub all_by_index : {X : Type 0} (P : X → Type 0) (d : X) (xs : List X) → ((k : ℕ) → k < length xs → P (get_or xs k d)) → AllByRecursion P xs
all_by_index P d [] each = tt
all_by_index P d (x ∷ xs) each = (each 0 (omega arith), all_by_index P d xs (λ k within. each (suc k) (omega arith)))
