-- Finite maps from numbers: what stands at a key, and the key of a value.
use Rattle.std.proofs.Common.{◌≡◌, ℕ, Bool, true, false, cond, ◌&&◌, List, [], ◌∷◌, map, find, None, Some, T, refl, sym, ◌∙◌, ap, arith, inl, inr}
use Rattle.std.proofs.lemmas.Bool.{cases_eq}
use Rattle.std.proofs.lemmas.Option.{none-some, same_Some}
use Rattle.std.specs.Ordering.{nat_cmp, eq_by_cmp, is_lt, is_eq}
use Rattle.std.specs.Cmp.{nat_cmp_total}
use Rattle.std.specs.declared.cmp.Ordering.{Ordering}
use Rattle.std.specs.declared.cmp.Ordering.TheVariants.{Less, Equal, Greater}
use Rattle.std.specs.FinMap as fin

here_same : (key : ℕ) → eq_by_cmp nat_cmp key key ≡ true
here_same key = grind arith

here_other : (one two : ℕ) → (one ≡ two → ⊥) → eq_by_cmp nat_cmp one two ≡ false
here_other one two apart = grind arith

module _ {X : Type 0} (all : fin.FinMap nat_cmp X) (key : ℕ) where
  pub get_inserted : (item : X) → fin.get (fin.insert all key item) key ≡ Some item
  get_inserted item = fin.get-insert nat_cmp_total all key item key ∙ ap (λ tied. cond tied (Some item) (fin.get all key)) (here_same key)

  pub get_kept : (item : X) (other : ℕ) → (other ≡ key → ⊥) → fin.get (fin.insert all key item) other ≡ fin.get all other
  get_kept item other apart = fin.get-insert nat_cmp_total all key item other ∙ ap (λ tied. cond tied (Some item) (fin.get all other)) (here_other other key apart)

  pub get_removed : fin.get (fin.remove all key) key ≡ None
  get_removed = fin.get-remove nat_cmp_total all key key ∙ ap (λ tied. cond tied None (fin.get all key)) (here_same key)

  pub get_left : (other : ℕ) → (other ≡ key → ⊥) → fin.get (fin.remove all key) other ≡ fin.get all other
  get_left other apart = fin.get-remove nat_cmp_total all key other ∙ ap (λ tied. cond tied None (fin.get all other)) (here_other other key apart)

lt_not_eq : (order : Ordering) → T (is_lt order) → is_eq order ≡ false
lt_not_eq Less less = refl
lt_not_eq Equal less = absurd less
lt_not_eq Greater less = absurd less

left_of : (one two : Bool) → T (one && two) → T one
left_of true two both = tt
left_of false two both = both

right_of : (one two : Bool) → T (one && two) → T two
right_of true two both = both
right_of false two both = absurd both

both_of : (one two : Bool) → T one → T two → T (one && two)
both_of true two first second = second
both_of false two first second = absurd first

-- the key stands below each key
abbrev below : {X : Type 0} → ℕ → List (ℕ × X) → Bool
below key [] = true
below key (entry ∷ others) = is_lt (nat_cmp key entry.0) && below key others

-- the first key is not found behind it
first_absent : {X : Type 0} (entries : List (ℕ × X)) (key : ℕ) → T (below key entries) → T (fin.is_sorted nat_cmp entries) → fin.find nat_cmp key entries ≡ None
first_absent [] key low sorted = refl
first_absent (entry ∷ others) key low sorted =
    ap (λ tied. cond tied (Some entry.1) (fin.find nat_cmp key others)) (lt_not_eq (nat_cmp key entry.0) (left_of (is_lt (nat_cmp key entry.0)) (below key others) low))
    ∙ first_absent others key (right_of (is_lt (nat_cmp key entry.0)) (below key others) low) (right_of (below entry.0 others) (fin.is_sorted nat_cmp others) sorted)

-- a key and what stands there, which passes a test
abbrev Found : {X : Type 0} → (X → Bool) → List (ℕ × X) → X → Type 0
Found test entries item = (key : ℕ) × (fin.find nat_cmp key entries ≡ Some item) × (test item ≡ true)

found_behind : {X : Type 0} (test : X → Bool) (entry : ℕ × X) (others : List (ℕ × X)) (item : X) → T (fin.is_sorted nat_cmp (entry ∷ others)) → Found test others item → Found test (entry ∷ others) item
found_behind {X} test entry others item sorted found =
    let absent : fin.find nat_cmp entry.0 others ≡ None = first_absent others entry.0 (left_of (below entry.0 others) (fin.is_sorted nat_cmp others) sorted) (right_of (below entry.0 others) (fin.is_sorted nat_cmp others) sorted) in
    let key : ℕ = found.0 in
    elim (cases_eq key entry.0) as (λ _. Found test (entry ∷ others) item) [
      | inl is ↦ absurd (none-some item (sym absent ∙ ap (λ given. fin.find nat_cmp given others) (sym is) ∙ found.1))
      | inr apart ↦ (key, ap (λ tied. cond tied (Some entry.1) (fin.find nat_cmp key others)) (here_other key entry.0 apart) ∙ found.1, found.2)
    ]

found_value : {X : Type 0} (test : X → Bool) (entries : List (ℕ × X)) (item : X) → T (fin.is_sorted nat_cmp entries) → find test (map (λ entry. entry.1) entries) ≡ Some item → Found test entries item
found_value test [] item sorted is = absurd (none-some item is)
found_value {X} test (entry ∷ others) item sorted is =
    elim (test entry.1) as (λ passes. test entry.1 ≡ passes → cond passes (Some entry.1) (find test (map (λ given. given.1) others)) ≡ Some item → Found test (entry ∷ others) item) [
      | true ↦ λ passes here. let same : entry.1 ≡ item = same_Some entry.1 item here in (
        entry.0,
        ap (λ tied. cond tied (Some entry.1) (fin.find nat_cmp entry.0 others)) (here_same entry.0) ∙ here,
        ap test (sym same) ∙ passes,
      )
      | false ↦ λ fails behind. found_behind test entry others item sorted (found_value test others item (right_of (below entry.0 others) (fin.is_sorted nat_cmp others) sorted) behind)
    ] refl is

-- a value that passes a test has a key
pub found_key : {X : Type 0} (test : X → Bool) (all : fin.FinMap nat_cmp X) (item : X) → find test (fin.values all) ≡ Some item → (key : ℕ) × (fin.get all key ≡ Some item) × (test item ≡ true)
found_key test all item is =
    let found = found_value test (fin.entries all) item (fin.entries_sorted all) is in
    (found.0, fin.get-entries all found.0 ∙ found.1, found.2)
