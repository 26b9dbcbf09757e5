-- Lemmas on the orders that are kept since they have the fewest changes of seat.
use Rattle.std.proofs.Common.{ℕ, ◌≡◌, ◌<◌, ◌≤◌, ◌⊎◌, inl, inr, List, [], ◌∷◌, ◌++◌, All, Contains, length, get_or, set, refl, ap, sym, subst, ◌∙◌, arith}
use Rattle.std.proofs.lemmas.Bool.{cases_eq}
use Rattle.std.proofs.lemmas.List.{get_or-set_same, get_or-set_other, length-set, get_or_read}
use Rattle.std.proofs.lemmas.List.Elements.{All-contains_itself, All-push, All-contains, All-same, All-set, All-weaker, Contains-append_left, Contains-push, Contains-push_cases}
use Rattle.irp_explore.specs.Paths.{changes_of, IsAsGood, HasAsGood}
use Rattle.irp_explore.proofs.Changing.{as_good_both, as_good_more, as_itself, fewest_more}

-- an order of the old ones, or the new one
abbrev pub IsOldOr : List (List ℕ) → List ℕ → List ℕ → Type 0
IsOldOr paths path one = Contains paths one ⊎ (one ≡ path)

-- ---- an order that is left out

pub has_held : (paths : List (List ℕ)) (place : ℕ) (at path other : List ℕ) → place < length paths → at ≡ get_or paths place at
    → IsAsGood at path → IsAsGood path other → HasAsGood paths other
has_held paths place at path other below is good better =
    (at, (place, below, sym is), as_good_both at path other good better)

pub only_old : (paths : List (List ℕ)) (path : List ℕ) → All (IsOldOr paths path) paths
only_old paths path =
    All-weaker (Contains paths) (IsOldOr paths path) (λ one held. inl held) paths (All-contains_itself paths)

-- ---- an order that takes another's place

pub set_held : (paths : List (List ℕ)) (place : ℕ) (path other : List ℕ) → place < length paths → IsAsGood path other
    → HasAsGood (set paths place path) other
set_held paths place path other below good =
    let long = length-set paths place path in
    (path, (place, omega (arith, below, long), get_or-set_same paths place path path below), good)

pub set_kept : (paths : List (List ℕ)) (place : ℕ) (at path other : List ℕ) → place < length paths → at ≡ get_or paths place at
    → IsAsGood path at → HasAsGood paths other → HasAsGood (set paths place path) other
set_kept paths place at path other below is good held =
    let long = length-set paths place path in
    let one = held.0 in
    let k = held.1.0 in
    let within : k < length (set paths place path) = omega (arith, held.1.1, long) in
    elim (cases_eq k place) as (λ _. HasAsGood (set paths place path) other) [
      | inl here ↦
          let read : at ≡ one = get_or_read paths place at below is one ∙ ap (λ (k : ℕ). get_or paths k one) (sym here) ∙ held.1.2 in
          let better : IsAsGood one other = held.2 in
          set_held paths place path other below
          (as_good_both path at other good (subst (λ (one : List ℕ). IsAsGood one other) (sym read) better))
      | inr elsewhere ↦
          (one, (k, within, get_or-set_other paths place k path one elsewhere ∙ held.1.2), held.2)
    ]

pub set_only : (paths : List (List ℕ)) (place : ℕ) (path : List ℕ) → All (IsOldOr paths path) (set paths place path)
set_only paths place path = All-set (IsOldOr paths path) paths place path (inr refl) (only_old paths path)

-- ---- an order more

pub push_kept : (paths new : List (List ℕ)) (path other : List ℕ) → new ≡ paths ++ path ∷ [] → HasAsGood paths other
    → HasAsGood new other
push_kept paths new path other is held =
    subst (λ (paths : List (List ℕ)). HasAsGood paths other) (sym is)
    (held.0, Contains-append_left paths (path ∷ []) held.0 held.1, held.2)

pub push_held : (paths new : List (List ℕ)) (path other : List ℕ) → new ≡ paths ++ path ∷ [] → IsAsGood path other
    → HasAsGood new other
push_held paths new path other is good =
    subst (λ (paths : List (List ℕ)). HasAsGood paths other) (sym is) (path, Contains-push paths path, good)

pub push_only : (paths new : List (List ℕ)) (path : List ℕ) → new ≡ paths ++ path ∷ [] → All (IsOldOr paths path) new
push_only paths new path is =
    All-same (IsOldOr paths path) new (paths ++ path ∷ []) is
    (All-push (IsOldOr paths path) paths path (only_old paths path) (inr refl))

-- ---- orders added, one after another

-- the last of those that are left, or one of the rest
pub held_popped : (others rest : List (List ℕ)) (path other : List ℕ) → others ≡ rest ++ path ∷ [] → HasAsGood others other
    → HasAsGood rest other ⊎ IsAsGood path other
held_popped others rest path other is held =
    let there : Contains (rest ++ path ∷ []) held.0 = subst (λ (paths : List (List ℕ)). Contains paths held.0) is held.1 in
    let better : IsAsGood held.0 other = held.2 in
    elim (Contains-push_cases rest path held.0 there) as (λ _. HasAsGood rest other ⊎ IsAsGood path other) [
      | inl still ↦ inl (held.0, still, better)
      | inr same ↦ inr (subst (λ (one : List ℕ). IsAsGood one other) (sym same) better)
    ]

pub none_held : (paths : List (List ℕ)) (other : List ℕ) → length paths ≡ 0 → HasAsGood paths other → ⊥
none_held paths other none held =
    let below = held.1.1 in
    omega (arith, none, below)

-- where an order is held, there are some
pub some_held : (paths : List (List ℕ)) (other : List ℕ) → HasAsGood paths other → 0 < length paths
some_held paths other held =
    let below = held.1.1 in
    omega (arith, below)

-- so there are where each order that was held still is, changed or not
pub some_still : (change : List ℕ → List ℕ) (paths new : List (List ℕ)) → ((other : List ℕ) → HasAsGood paths other → HasAsGood new (change other))
    → 0 < length paths → 0 < length new
some_still change [] new kept some = absurd (omega (arith, some))
some_still change (path ∷ paths) new kept some = some_held new (change path) (kept path (path, (0, omega arith, refl), as_itself path))

pub left_popped : (others rest : List (List ℕ)) (path one : List ℕ) → others ≡ rest ++ path ∷ [] → Contains rest one → Contains others one
left_popped others rest path one is held =
    subst (λ (paths : List (List ℕ)). Contains paths one) (sym is) (Contains-append_left rest (path ∷ []) one held)

pub last_popped : (others rest : List (List ℕ)) (path : List ℕ) → others ≡ rest ++ path ∷ [] → Contains others path
last_popped others rest path is = subst (λ (paths : List (List ℕ)). Contains paths path) (sym is) (Contains-push rest path)

-- each is one of these or of those
pub only_both : (paths others old new : List (List ℕ)) (path : List ℕ) → Contains others path
    → All (λ one. Contains paths one ⊎ Contains others one) old → All (IsOldOr old path) new
    → All (λ one. Contains paths one ⊎ Contains others one) new
only_both paths others old new path there before only =
    All-weaker (IsOldOr old path) (λ one. Contains paths one ⊎ Contains others one)
    (λ one from. elim from as (λ _. Contains paths one ⊎ Contains others one) [
      | inl was ↦ All-contains (λ one. Contains paths one ⊎ Contains others one) old one before was
      | inr is ↦ inr (subst (λ (one : List ℕ). Contains others one) (sym is) there)
    ]) new only

-- ---- one more step

-- the order with the fewest changes then is as good as each
pub fewest_held : (paths new : List (List ℕ)) (best longer other : List ℕ) (seat : ℕ)
    → All (λ one. changes_of (best ++ seat ∷ []) ≤ changes_of (one ++ seat ∷ [])) paths
    → longer ≡ best ++ seat ∷ [] → Contains new longer → HasAsGood paths other → HasAsGood new (other ++ seat ∷ [])
fewest_held paths new best longer other seat fewest is there held =
    let more = seat ∷ [] in
    let fewer = All-contains (λ (one : List ℕ). changes_of (best ++ more) ≤ changes_of (one ++ more)) paths held.0 fewest held.1 in
    let better : IsAsGood (held.0 ++ more) (other ++ more) = as_good_more held.0 other more held.2 in
    let good = as_good_both (best ++ more) (held.0 ++ more) (other ++ more) (fewest_more best held.0 seat fewer) better in
    (longer, there, subst (λ (path : List ℕ). IsAsGood path (other ++ more)) (sym is) good)
