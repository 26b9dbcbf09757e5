-- Changes of lists.
use Rattle.std.specs.Prelude.{ℕ, List, [], ◌∷◌, ◌++◌, length, nat_lt, if◌then◌else◌, Option, Some, None, slice_set}
use Rattle.std.specs.List.{remove}

-- one more item, if there is one
abbrev pub with_more : {X : Type 0} → Option X → List X → List X
with_more None items = items
with_more (Some item) items = items ++ item ∷ []

-- without the item of a place, if one is named and is there
abbrev pub without : {X : Type 0} → Option ℕ → List X → List X
without None items = items
without (Some place) items = if nat_lt place (length items) then remove items place else items

-- another item at a place, if it is there
abbrev pub with_item : {X : Type 0} → ℕ → X → List X → List X
with_item place item items = if nat_lt place (length items) then slice_set items place item else items
