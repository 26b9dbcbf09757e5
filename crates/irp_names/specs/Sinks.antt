-- Words that grow piece by piece: their bytes, or None where memory ran out.
use Rattle.std.specs.Prelude.{ℕ, ◌≡◌, List, [], ◌++◌, codes, Option, Some, None}

-- memory ran out; or these words were put behind those that stood there
abbrev pub Says : List ℕ → Option (List ℕ) → Option (List ℕ) → Type 0
Says words before None = Unit {0}
Says words None (Some after) = ⊥
Says words (Some before) (Some after) = after ≡ before ++ words

-- words in quotation marks
abbrev pub in_marks : List ℕ → List ℕ
in_marks words = codes "\"" ++ (words ++ codes "\"")

-- no words any more; that memory ran out stays
abbrev pub emptied : Option (List ℕ) → Option (List ℕ)
emptied None = None
emptied (Some words) = Some []
