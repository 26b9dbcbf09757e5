-- Tables of names by numbers.
use Rattle.std.specs.Prelude.{ℕ, ◌==◌, List, [], ◌∷◌, Option, Some, None, if◌then◌else◌}
use Rattle.std.proofs.Common.{bytes_eq}

-- a number and its name
abbrev pub Row : Type 0
Row = ℕ × List ℕ

-- the name in the first row of a number, if there is one
abbrev pub named : List Row → ℕ → Option (List ℕ)
named [] number = None
named (row ∷ rows) number = if number == row.0 then Some row.1 else named rows number

-- the number in the first row of a name, if there is one
abbrev pub numbered : List Row → List ℕ → Option ℕ
numbered [] name = None
numbered (row ∷ rows) name = if bytes_eq name row.1 then Some row.0 else numbered rows name
