-- Changes of seat along orders, and the orders that are kept since they have the fewest.
use Rattle.std.specs.Prelude.{ℕ, ◌≤◌, ◌==◌, Bool, not, if◌then◌else◌, Option, Some, None, List, ◌++◌, ◌∷◌, [], drop, count_by, Contains}
use Rattle.std.specs.List.{zip}

-- two seats that differ
abbrev pub differ : ℕ × ℕ → Bool
differ pair = not (pair.0 == pair.1)

-- how often the seat changes along an order: how many of its steps are another seat's than the step before
abbrev pub changes_of : List ℕ → ℕ
changes_of path = count_by differ (zip path (drop 1 path))

-- how often it changes between the last step, if there is one, and the next, if there is one
abbrev pub seam : Option ℕ → List ℕ → ℕ
seam None rest = 0
seam (Some last) [] = 0
seam (Some last) (next ∷ rest) = if last == next then 0 else 1

-- whatever steps follow, one order changes its seat no more often than another
abbrev pub IsAsGood : List ℕ → List ℕ → Type 0
IsAsGood one other = (rest : List ℕ) → changes_of (one ++ rest) ≤ changes_of (other ++ rest)

-- one of the orders is as good as this one
abbrev pub HasAsGood : List (List ℕ) → List ℕ → Type 0
HasAsGood paths path = (one : List ℕ) × Contains paths one × IsAsGood one path
