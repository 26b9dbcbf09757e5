-- What stands at a place, and the places of seats by their numbers.
use Rattle.std.proofs.Common.{◌≡◌, ◌≢◌, ◌<◌, ℕ, zero, suc, List, [], ◌∷◌, Contains, length, map, get_or, sym, ap, ◌∙◌, arith}
use Rattle.std.proofs.lemmas.List.{get_or-map, length-map}
use Rattle.std.proofs.lemmas.Option.{get_or_from_slice_get}
use Rattle.std.specs.Prelude.{slice_get, Some}

told_there : {S : Type 0} (f : S → ℕ) (seats : List S) (k number : ℕ) → k < length (map f seats) → get_or (map f seats) k number ≡ number
    → (one : S) → f (get_or seats k one) ≡ number
told_there f [] k number lt is one = absurd (omega arith)
told_there f (x ∷ xs) zero number lt is one = is
told_there f (x ∷ xs) (suc k) number lt is one = told_there f xs k number (omega arith) is one

-- what no item tells is not among what they tell
pub none_there : {S : Type 0} (f : S → ℕ) (seats : List S) (number : ℕ) → ((k : ℕ) (one : S) → k < length seats → f (get_or seats k one) ≢ number)
    → ¬ Contains (map f seats) number
none_there f [] number none there = let less = there.1 in absurd (omega arith)
none_there f (x ∷ xs) number none there =
    let less = there.1 in none there.0 x (omega (arith, length-map xs f)) (told_there f (x ∷ xs) there.0 number there.1 there.2 x)

-- what an item tells that stands where the telling of it was found
pub told_at : {S : Type 0} (f : S → ℕ) (seats : List S) (place number : ℕ) (one : S) → slice_get (map f seats) place ≡ Some number
    → one ≡ get_or seats place one → place < length seats → f one ≡ number
told_at f seats place number one there is lt =
    ap f is ∙ sym (get_or-map f seats place one number lt) ∙ get_or_from_slice_get (map f seats) place number number there
