-- Counts of what is handed round: seats one by one, and workers all together.
use Rattle.std.proofs.Common.{◌≡◌, All, ℕ, zero, suc, ◌+◌, ◌<◌, ◌≤◌, Bool, cond, List, [], ◌∷◌, ◌++◌, length, map, set, get_or, refl, sym, subst, ap, ◌∙◌, arith, inl, inr}
use Rattle.std.proofs.lemmas.List.{get_or-set_other, get_or-set_same, get_or_append_left, get_or_push, map_push}
use Rattle.std.proofs.lemmas.Bool.Decides.{eqb_tells}
use Rattle.std.proofs.lemmas.List.Elements.{All-push}
use Rattle.std.proofs.lemmas.List.Sums.{sum_by-append, sum_by-cons, sum_by-set}
use Rattle.std.specs.Prelude.{IfOk, Result, Ok, Err, sum_by}
use Rattle.std.specs.List.{count_by}

-- one more behind
pub count_push : {S T : Type 0} (f : S → T) (test : T → Bool) (all front : List S) (last : S) → all ≡ front ++ last ∷ []
    → count_by test (map f all) ≡ count_by test (map f front) + count_by test (f last ∷ [])
count_push f test all front last is =
    ap (λ list. count_by test (map f list)) is ∙ ap (count_by test) (map_push f front last) ∙ sum_by-append _ (map f front) (f last ∷ [])

pub count_last : {S : Type 0} (test : S → Bool) (all front : List S) (last : S) → all ≡ front ++ last ∷ [] → count_by test all ≡ count_by test front + count_by test (last ∷ [])
count_last test all front last is = ap (count_by test) is ∙ sum_by-append _ front (last ∷ [])

-- a count of what some tell is a count of them
pub count_map : {S T : Type 0} (f : S → T) (test : T → Bool) (xs : List S) → count_by test (map f xs) ≡ count_by (λ x. test (f x)) xs
count_map f test [] = refl
count_map f test (x ∷ xs) = sum_by-cons _ (f x) (map f xs) ∙ ap (λ n. cond (test (f x)) 1 0 + n) (count_map f test xs) ∙ sym (sum_by-cons _ x xs)

-- an item that tells the same in the place of one leaves what all tell
pub map_set_same : {A B : Type 0} (f : A → B) (xs : List A) (i : ℕ) (v d : A) → f v ≡ f (get_or xs i d) → i < length xs → map f (set xs i v) ≡ map f xs
map_set_same f [] i v d e lt = refl
map_set_same f (x ∷ xs) zero v d e lt = ap (λ y. y ∷ map f xs) e
map_set_same f (x ∷ xs) (suc i) v d e lt = ap (λ ys. f x ∷ ys) (map_set_same f xs i v d e (omega arith))

-- what the items of two lists of one length tell together, where each tells the same as the other at its place
pub sum_same : {A B : Type 0} (f : A → ℕ) (g : B → ℕ) (xs : List A) (ys : List B) → length ys ≡ length xs
    → ((i : ℕ) (d : A) (e : B) → i < length xs → g (get_or ys i e) ≡ f (get_or xs i d)) → sum_by g ys ≡ sum_by f xs
sum_same f g [] [] len same = refl
sum_same f g [] (y ∷ ys) len same = absurd (omega arith)
sum_same f g (x ∷ xs) [] len same = absurd (omega arith)
sum_same f g (x ∷ xs) (y ∷ ys) len same =
    let first : g y ≡ f x = same 0 x y (omega arith) in
    let rest : sum_by g ys ≡ sum_by f xs = sum_same f g xs ys (omega arith) (λ i d e lt. same (suc i) d e (omega arith)) in
    let left : sum_by g (y ∷ ys) ≡ g y + sum_by g ys = sum_by-cons g y ys in
    let right : sum_by f (x ∷ xs) ≡ f x + sum_by f xs = sum_by-cons f x xs in
    omega (arith, first, rest, left, right)

pub sum_none : {S : Type 0} (f : S → ℕ) (xs : List S) → length xs ≡ 0 → sum_by f xs ≡ 0
sum_none f [] is = refl
sum_none f (x ∷ xs) is = absurd (omega arith)

-- what one of those left says is said by the one in whose place it was put
pub dealt : {S : Type 0} (f : S → ℕ) (all : List S) (i : ℕ) (new old : S) (left fewer total one : ℕ) → old ≡ get_or all i old → i < length all
    → f new ≡ f old + one → left ≡ fewer + one → left + sum_by f all ≡ total → fewer + sum_by f (set all i new) ≡ total
dealt f all i new old left fewer total one is within more taken so_far =
    let put : sum_by f (set all i new) + f (get_or all i old) ≡ sum_by f all + f new = sum_by-set f all i new old within in
    let same : f old ≡ f (get_or all i old) = ap f is in
    omega (arith, put, same, more, taken, so_far)

-- what follows of each answer follows where there is one
pub if_ok_on : {T E : Type 0} (result : Result T E) {P Q : T → Type 0} → ((value : T) → P value → Q value) → IfOk result P → IfOk result Q
if_ok_on (Ok value) step holds = step value holds
if_ok_on (Err fault) step holds = holds

-- what a function gives of so many numbers from one on, together
abbrev pub sum_from : (ℕ → ℕ) → ℕ → ℕ → ℕ
sum_from g a zero = 0
sum_from g a (suc n) = g a + sum_from g (suc a) n

-- a list of which each item tells at most what the function gives of its place
pub sum_at_most : {A : Type 0} (f : A → ℕ) (g : ℕ → ℕ) (a : ℕ) (xs : List A) → ((i : ℕ) (d : A) → i < length xs → f (get_or xs i d) ≤ g (a + i))
    → sum_by f xs ≤ sum_from g a (length xs)
sum_at_most f g a [] each = omega arith
sum_at_most f g a (x ∷ xs) each =
    let first : f x ≤ g (a + 0) = each 0 x (omega arith) in
    let none : a + 0 ≡ a = omega arith in
    let here : g (a + 0) ≡ g a = ap g none in
    let rest : sum_by f xs ≤ sum_from g (suc a) (length xs) = sum_at_most f g (suc a) xs (λ i d lt. let next : a + suc i ≡ suc a + i = omega arith in subst (λ k. f (get_or xs i d) ≤ g k) next (each (suc i) d (omega arith))) in
    let left : sum_by f (x ∷ xs) ≡ f x + sum_by f xs = sum_by-cons f x xs in
    omega (arith, first, here, rest, left)

-- and one of which each tells just that
pub sum_at : {A : Type 0} (f : A → ℕ) (g : ℕ → ℕ) (a : ℕ) (xs : List A) → ((i : ℕ) (d : A) → i < length xs → f (get_or xs i d) ≡ g (a + i))
    → sum_by f xs ≡ sum_from g a (length xs)
sum_at f g a [] each = refl
sum_at f g a (x ∷ xs) each =
    let first : f x ≡ g (a + 0) = each 0 x (omega arith) in
    let none : a + 0 ≡ a = omega arith in
    let here : g (a + 0) ≡ g a = ap g none in
    let rest : sum_by f xs ≡ sum_from g (suc a) (length xs) = sum_at f g (suc a) xs (λ i d lt. let next : a + suc i ≡ suc a + i = omega arith in subst (λ k. f (get_or xs i d) ≡ g k) next (each (suc i) d (omega arith))) in
    let left : sum_by f (x ∷ xs) ≡ f x + sum_by f xs = sum_by-cons f x xs in
    omega (arith, first, here, rest, left)

-- two functions together
pub sum_from_both : (g h f : ℕ → ℕ) → ((k : ℕ) → f k ≡ g k + h k) → (a n : ℕ) → sum_from f a n ≡ sum_from g a n + sum_from h a n
sum_from_both g h f both a zero = refl
sum_from_both g h f both a (suc n) =
    let rest : sum_from f (suc a) n ≡ sum_from g (suc a) n + sum_from h (suc a) n = sum_from_both g h f both (suc a) n in
    let here : f a ≡ g a + h a = both a in
    omega (arith, rest, here)

pub sum_from_none : (g : ℕ → ℕ) (a n : ℕ) → ((k : ℕ) → a ≤ k → g k ≡ 0) → sum_from g a n ≡ 0
sum_from_none g a zero none = refl
sum_from_none g a (suc n) none =
    let rest : sum_from g (suc a) n ≡ 0 = sum_from_none g (suc a) n (λ k le. none k (omega arith)) in
    let here : g a ≡ 0 = none a (omega arith) in
    omega (arith, rest, here)

-- what holds of each item and of a new one holds of each where the new one is put
pub each_set : {A : Type 0} (P : ℕ → A → Type 0) (n : ℕ) (xs : List A) (i : ℕ) (v : A) → i < length xs
    → ((k : ℕ) (d : A) → k < n → P k (get_or xs k d)) → P i v → (k : ℕ) (d : A) → k < n → P k (get_or (set xs i v) k d)
each_set P n xs i v within each here k d lt = elim (eqb_tells k i) as (λ _. P k (get_or (set xs i v) k d)) [
  | inl is ↦ subst (λ j. P j (get_or (set xs i v) j d)) (sym is.1) (subst (P i) (sym (get_or-set_same xs i v d within)) here)
  | inr other ↦ subst (P k) (sym (get_or-set_other xs i k v d other.1)) (each k d lt)
]

-- what holds of each and of one behind them holds of each of all
pub all_push : {A : Type 0} (P : A → Type 0) (all front : List A) (last : A) → all ≡ front ++ last ∷ [] → All P front → P last → All P all
all_push P all front last is each here = subst (All P) (sym is) (All-push P front last each here)

-- what holds of each item by its place and of one behind them holds of each of all
pub each_push : {A : Type 0} (P : ℕ → A → Type 0) (xs : List A) (v : A) (n : ℕ) → length xs ≡ n
    → ((k : ℕ) (d : A) → k < n → P k (get_or xs k d)) → P n v → (k : ℕ) (d : A) → k < suc n → P k (get_or (xs ++ v ∷ []) k d)
each_push P xs v n long each here k d lt = elim (eqb_tells k n) as (λ _. P k (get_or (xs ++ v ∷ []) k d)) [
  | inl is ↦ subst (λ j. P j (get_or (xs ++ v ∷ []) j d)) (sym is.1) (subst (P n) (sym (get_or_push xs v d n long)) here)
  | inr other ↦
      let less : k < n = omega (arith, lt, other.1) in
      subst (P k) (sym (get_or_append_left xs (v ∷ []) d k (omega (arith, less, long)))) (each k d less)
]
