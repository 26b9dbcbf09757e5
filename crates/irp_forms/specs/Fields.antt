-- What stands under a key of an object, and at a place of an array.
use Rattle.std.specs.Prelude.{ℕ, List, Option}
use Rattle.serde_json.specs.Data.{Data}
use Rattle.serde_json.specs.Find.{at, get}
use Rattle.irp_forms.specs.Parts.{◌>>=◌}

-- what the value under the key reads as; none where there is no such key
abbrev pub field : {T : Type 0} → List ℕ → (Data → Option T) → Data → Option T
field key reads form = get key form >>= reads

-- what the item at the place reads as; none where there is no such item
abbrev pub nth : {T : Type 0} → ℕ → (Data → Option T) → Data → Option T
nth place reads form = at place form >>= reads
