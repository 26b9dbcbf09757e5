-- The names of statuses, as rows and as words.
use Rattle.std.proofs.Common.{◌≡◌, ◌∙◌, ◌∷◌, [], ℕ, Bor, List, ap, map, refl}
use Rattle.irp_names.specs.Rows.{Row}
use Rattle.irp_condition.specs.declared.value.Value.{Value}
use Rattle.irp_condition.specs.declared.value.Value.TheVariants.{Number}

-- a row of the table as it is lent, as a row, and as a word
abbrev pub lent_row : (ℕ × Bor (List ℕ)) → Row
lent_row row = (row.0, row.1.now)

abbrev pub lent_word : (ℕ × Bor (List ℕ)) → List ℕ × Value
lent_word row = (row.1.now, Number row.0)

abbrev pub row_word : Row → List ℕ × Value
row_word row = (row.1, Number row.0)

map_twice : (rows : List (ℕ × Bor (List ℕ))) → map lent_word rows ≡ map row_word (map lent_row rows)
map_twice [] = refl
map_twice (row ∷ rows) = ap (λ (words : List (List ℕ × Value)). lent_word row ∷ words) (map_twice rows)

-- rows that are a table's are its words
pub rows_are_words : (rows : List (ℕ × Bor (List ℕ))) (table : List Row) (words : List (List ℕ × Value))
    → map lent_row rows ≡ table → words ≡ map lent_word rows → words ≡ map row_word table
rows_are_words rows table words same are = are ∙ map_twice rows ∙ ap (map row_word) same
