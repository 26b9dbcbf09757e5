-- JSON values by their members and items, and the line of a value.
use Rattle.std.specs.Prelude.{ℕ, List, [], ◌∷◌, ◌++◌, Option, Some, None}
use Rattle.serde_json.specs.Data.{Data, null, number, unsigned, array, object, Members, no_members, member}
use Rattle.serde_json.specs.View.{items_of}
use Rattle.serde_json.specs.Written.{compact_text}

-- a whole number
abbrev pub natural : ℕ → Data
natural count = number (unsigned count)

-- a list of these items
abbrev pub list : List Data → Data
list items = array (items_of items)

-- the members of an object, each with its key
abbrev pub members_of : List (List ℕ × Data) → Members
members_of [] = no_members
members_of (first ∷ others) = member first.0 first.1 (members_of others)

-- an object of these members, which stand in the order of their keys
abbrev pub fields : List (List ℕ × Data) → Data
fields members = object (members_of members)

-- what there is, or null
abbrev pub or_null : {T : Type 0} → (T → Data) → Option T → Data
or_null form None = null
or_null form (Some value) = form value

-- the compact text, and a newline
unfoldable pub line_text : Data → List ℕ
line_text value = compact_text value ++ 10 ∷ []
