-- Elements of a list that is one longer.
use Rattle.std.proofs.Common.{◌≡◌, ℕ, ◌<◌, zero, suc, List, [], ◌∷◌, ◌++◌, length, ◌⊎◌, inl, inr, refl, arith}
use Rattle.std.specs.Prelude.{slice_get, Some}

-- what stands in the front stands in the whole
pub get_front : {X : Type 0} (front back : List X) (place : ℕ) (item : X) → slice_get front place ≡ Some item → slice_get (front ++ back) place ≡ Some item
get_front [] back place item found = cc
get_front (first ∷ others) back zero item found = found
get_front (first ∷ others) back (suc place) item found = get_front others back place item found

-- the item that was added stands last
pub get_last : {X : Type 0} (front : List X) (item : X) → slice_get (front ++ item ∷ []) (length front) ≡ Some item
get_last [] item = refl
get_last (first ∷ others) item = get_last others item

-- an item stands in the front, or is the one that was added
pub front_or_last : {X : Type 0} (front : List X) (last : X) (place : ℕ) (item : X) → slice_get (front ++ last ∷ []) place ≡ Some item
    → ((place < length front) × (slice_get front place ≡ Some item)) ⊎ ((place ≡ length front) × (last ≡ item))
front_or_last [] last zero item found = inr (refl, cc)
front_or_last [] last (suc place) item found = cc
front_or_last (first ∷ others) last zero item found = inl (omega arith, found)
front_or_last (first ∷ others) last (suc place) item found =
    elim (front_or_last others last place item found) [
      | inl before ↦ inl (let within = before.0 in omega arith, before.1)
      | inr after ↦ inr (let at_end = after.0 in omega arith, after.1)
    ]
