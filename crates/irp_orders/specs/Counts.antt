-- How many orders and outcomes there are, in words.
use Rattle.std.specs.Prelude.{ℕ, ◌==◌, ◌++◌, List, codes, if◌then◌else◌}
use Rattle.std.specs.Fmt.{decimal}

-- what one of them, or several, are called
abbrev pub called : ℕ → List ℕ → List ℕ → List ℕ
called count one several = if count == 1 then one else several

abbrev pub counted : ℕ → List ℕ → List ℕ → List ℕ
counted count one several = decimal count ++ called count one several

abbrev pub orders_text : ℕ → List ℕ
orders_text orders = counted orders (codes " order") (codes " orders")

abbrev pub outcomes_text : ℕ → List ℕ
outcomes_text outcomes = counted outcomes (codes " outcome") (codes " outcomes")
