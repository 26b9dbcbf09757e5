-- Lemmas on lists whose elements change places, and on what holds of each two elements.
use Rattle.std.proofs.Common.{ℕ, suc, ◌≡◌, ◌≢◌, ◌<◌, All, inl, inr, List, [], ◌∷◌, ◌++◌, map, length, get_or, set, take, drop, refl, ap, sym, subst, ◌∙◌, arith, append_assoc}
use Rattle.std.specs.Prelude.{AllPairs}
use Rattle.std.specs.List.{swap}
use Rattle.std.specs.List.Sorted.{IsPermutation}
use Rattle.std.proofs.lemmas.Bool.{cases_eq, cases_lt}
use Rattle.std.proofs.lemmas.List.{set_split, length-map, get_or-map, map-set}
use Rattle.std.proofs.lemmas.List.Edits.{Swapped, swapped_from_swap, swap_is, length-swap}
use Rattle.std.proofs.lemmas.List.Elements.{All-head, All-tail, All-append}
use Rattle.std.proofs.lemmas.List.Kept.{AllPairs-cons}
use Rattle.std.proofs.lemmas.List.Sorted.{IsPermutation-keeps, IsPermutation-refl, IsPermutation-trans, IsPermutation-swap, IsPermutation-sym, IsPermutation-middle, IsPermutation-append_comm, IsPermutation-append_left}

-- where a place comes from when two places are exchanged
came_from : {X : Type 0} (f g : ℕ → X) (a b size : ℕ) → Swapped f g a b → a < size → b < size → (place : ℕ) → place < size
    → (from : ℕ) × (from < size) × (g place ≡ f from) × (place ≡ a → from ≡ b) × (place ≡ b → from ≡ a) × (place ≢ a → place ≢ b → from ≡ place)
came_from {X} f g a b size swapped below above place within =
    elim (cases_eq place a) as (λ _. (from : ℕ) × (from < size) × (g place ≡ f from) × (place ≡ a → from ≡ b) × (place ≡ b → from ≡ a) × (place ≢ a → place ≢ b → from ≡ place)) [
      | inl first ↦ (b, above, ap g first ∙ swapped.0, (λ _. refl), (λ second. omega arith), (λ not _. absurd (not first)))
      | inr not_first ↦
          (elim (cases_eq place b) as (λ _. (from : ℕ) × (from < size) × (g place ≡ f from) × (place ≡ a → from ≡ b) × (place ≡ b → from ≡ a) × (place ≢ a → place ≢ b → from ≡ place)) [
            | inl second ↦ (a, below, ap g second ∙ swapped.1, (λ first. absurd (not_first first)), (λ _. refl), (λ _ not. absurd (not second)))
            | inr not_second ↦ (place, within, swapped.2 place not_first not_second, (λ first. absurd (not_first first)), (λ second. absurd (not_second second)), (λ _ _. refl))
          ])
    ]

-- two places come from two
came_apart : (a b i j s t : ℕ) → i ≢ j → (i ≡ a → s ≡ b) → (i ≡ b → s ≡ a) → (i ≢ a → i ≢ b → s ≡ i)
    → (j ≡ a → t ≡ b) → (j ≡ b → t ≡ a) → (j ≢ a → j ≢ b → t ≡ j) → s ≢ t
came_apart a b i j s t differ p q r x y z same = grind arith

-- what holds of each two elements, either way round, still does when they change places
pub pairs_either : {X : Type 0} (R : X → X → Type 0) → ((x y : X) → R x y → R y x) → (xs : List X) (i j : ℕ) (d : X)
    → AllPairs R xs → i ≢ j → i < length xs → j < length xs → R (get_or xs i d) (get_or xs j d)
pairs_either R flips xs i j d all differ one other =
    elim (cases_lt i j) as (λ _. R (get_or xs i d) (get_or xs j d)) [
      | inl before ↦ all i j d before other
      | inr after ↦ flips _ _ (all j i d (omega arith) one)
    ]

pub pairs_permuted : {X : Type 0} (R : X → X → Type 0) → ((x y : X) → R x y → R y x) → (xs ys : List X) → IsPermutation xs ys → AllPairs R xs → AllPairs R ys
pairs_permuted {X} R flips xs ys permuted all =
    IsPermutation-keeps xs (AllPairs R) all (λ l a b below above before i j d less within.
    let long = length-swap l a b in
    let swapped = swapped_from_swap l (swap l a b) a b d below above refl in
    let u = came_from (λ i. get_or l i d) (λ i. get_or (swap l a b) i d) a b (length l) swapped below above i (omega arith) in
    let v = came_from (λ i. get_or l i d) (λ i. get_or (swap l a b) i d) a b (length l) swapped below above j (omega arith) in
    let differ : i ≢ j = omega arith in
    let apart = came_apart a b i j u.0 v.0 differ u.3 u.4 u.5 v.3 v.4 v.5 in
    rw (u.2, v.2) (pairs_either R flips l u.0 v.0 d before apart u.1 v.1)) ys permuted

pub pairs_head : {X : Type 0} (R : X → X → Type 0) (x : X) (xs : List X) → AllPairs R (x ∷ xs) → All (R x) xs
pairs_head R x xs all k d within = all 0 (suc k) d (omega arith) (omega arith)

pub pairs_tail : {X : Type 0} (R : X → X → Type 0) (x : X) (xs : List X) → AllPairs R (x ∷ xs) → AllPairs R xs
pairs_tail R x xs all i j d before within = all (suc i) (suc j) d (omega arith) (omega arith)

pub pairs_append : {X : Type 0} (R : X → X → Type 0) (xs ys : List X) → AllPairs R xs → AllPairs R ys → All (λ x. All (R x) ys) xs → AllPairs R (xs ++ ys)
pairs_append R [] ys one other across = other
pairs_append R (x ∷ xs) ys one other across =
    AllPairs-cons R x (xs ++ ys)
    (All-append (R x) xs ys (pairs_head R x xs one) (All-head (λ x. All (R x) ys) x xs across))
    (pairs_append R xs ys (pairs_tail R x xs one) other (All-tail (λ x. All (R x) ys) x xs across))

pub pairs_weaker : {X : Type 0} (R Q : X → X → Type 0) → ((x y : X) → R x y → Q x y) → (xs : List X) → AllPairs R xs → AllPairs Q xs
pairs_weaker R Q weaker xs all i j d before within = weaker _ _ (all i j d before within)

map_swap : {P X : Type 0} (f : P → X) (qs : List P) (i j : ℕ) → i < length qs → j < length qs → map f (swap qs i j) ≡ swap (map f qs) i j
map_swap f [] i j one other = absurd (omega arith)
map_swap {P} {X} f (q ∷ qs) i j one other =
    let l = q ∷ qs in
    let long = length-map l f in
    let first = set (map f l) i (get_or (map f l) j (f q)) in
    ap (map f) (sym (swap_is l i j q one other))
    ∙ map-set f (set l i (get_or l j q)) j (get_or l i q)
    ∙ ap (λ (l : List X). set l j (f (get_or (q ∷ qs) i q))) (map-set f l i (get_or l j q) ∙ ap (λ (x : X). set (map f (q ∷ qs)) i x) (sym (get_or-map f l j q (f q) other)))
    ∙ ap (λ (x : X). set first j x) (sym (get_or-map f l i q (f q) one))
    ∙ swap_is (map f l) i j (f q) (omega (arith, long)) (omega (arith, long))

-- elements in another order, of which a map is given in that order
pub permuted_before : {P X : Type 0} (f : P → X) (ps : List P) (xs ys : List X) → map f ps ≡ xs → IsPermutation xs ys → (qs : List P) × IsPermutation ps qs × (map f qs ≡ ys)
permuted_before {P} {X} f ps xs ys mapped permuted =
    IsPermutation-keeps xs (λ (l : List X). (qs : List P) × IsPermutation ps qs × (map f qs ≡ l)) (ps, IsPermutation-refl ps, mapped)
    (λ l i j below above before.
    let qs = before.0 in
    let long = ap length before.2 in
    let one : i < length qs = omega (arith, long, length-map qs f) in
    let other : j < length qs = omega (arith, long, length-map qs f) in (
      swap qs i j,
      IsPermutation-trans ps qs (swap qs i j) before.1 (IsPermutation-swap qs (swap qs i j) i j one other refl),
      map_swap f qs i j one other ∙ ap (λ (l : List X). swap l i j) before.2,
    )) ys permuted

pub pairs_map : {P X : Type 0} (R : X → X → Type 0) (f : P → X) (ps : List P) → AllPairs (λ one other. R (f one) (f other)) ps → AllPairs R (map f ps)
pairs_map R f [] all i j d before within = absurd (omega arith)
pairs_map {P} {X} R f (p ∷ ps) all i j d before within =
    let long = length-map (p ∷ ps) f in
    let one = get_or-map f (p ∷ ps) i p d (omega (arith, long)) in
    let other = get_or-map f (p ∷ ps) j p d (omega (arith, long)) in
    rw (one, other) (all i j p before (omega (arith, long)))

-- one element goes to the end of a front, and comes from there
pub one_in : {X : Type 0} (x : X) (xs ys : List X) → IsPermutation (x ∷ (xs ++ ys)) ((xs ++ x ∷ []) ++ ys)
one_in {X} x xs ys = subst (IsPermutation (x ∷ (xs ++ ys))) (sym (append_assoc xs (x ∷ []) ys)) (IsPermutation-sym (xs ++ x ∷ ys) (x ∷ (xs ++ ys)) (IsPermutation-middle xs x ys))

pub one_out : {X : Type 0} (x : X) (xs ys : List X) → IsPermutation ((xs ++ x ∷ []) ++ ys) (x ∷ (xs ++ ys))
one_out {X} x xs ys = IsPermutation-sym (x ∷ (xs ++ ys)) ((xs ++ x ∷ []) ++ ys) (one_in x xs ys)

-- of three lists the second goes to the front, or the third, and from there to the end
pub second_first : {X : Type 0} (xs ys zs : List X) → IsPermutation (xs ++ (ys ++ zs)) (ys ++ (xs ++ zs))
second_first {X} xs ys zs =
    subst (λ (l : List X). IsPermutation l (ys ++ (xs ++ zs))) (append_assoc xs ys zs)
    (subst (IsPermutation ((xs ++ ys) ++ zs)) (append_assoc ys xs zs) (IsPermutation-append_left zs (xs ++ ys) (ys ++ xs) (IsPermutation-append_comm xs ys)))

pub third_first : {X : Type 0} (xs ys zs : List X) → IsPermutation (xs ++ (ys ++ zs)) (zs ++ (xs ++ ys))
third_first {X} xs ys zs = subst (λ (l : List X). IsPermutation l (zs ++ (xs ++ ys))) (append_assoc xs ys zs) (IsPermutation-append_comm (xs ++ ys) zs)

pub front_third : {X : Type 0} (xs ys zs : List X) → IsPermutation (zs ++ (xs ++ ys)) (xs ++ (ys ++ zs))
front_third {X} xs ys zs = IsPermutation-sym (xs ++ (ys ++ zs)) (zs ++ (xs ++ ys)) (third_first xs ys zs)

-- an element that is set goes to the front
pub set_first : {X : Type 0} (xs : List X) (place : ℕ) (x : X) → place < length xs → IsPermutation (set xs place x) (x ∷ (take place xs ++ drop (suc place) xs))
set_first {X} xs place x there =
    subst (λ (l : List X). IsPermutation l (x ∷ (take place xs ++ drop (suc place) xs))) (sym (set_split xs place x there)) (IsPermutation-middle (take place xs) x (drop (suc place) xs))
