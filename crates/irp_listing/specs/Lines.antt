-- Lines of words. Bytes are numbers: the newline is 10, the space is 32.
use Rattle.std.specs.Prelude.{ℕ, ◌==◌, List, [], ◌∷◌, ◌++◌, map, codes, nat_lt, if◌then◌else◌}
use Rattle.std.specs.Fmt.{decimal}

-- a byte, or a space for a newline
abbrev pub on_one_line : ℕ → ℕ
on_one_line byte = if byte == 10 then 32 else byte

-- words as one line, which ends with the only newline
abbrev pub line_of : List ℕ → List ℕ
line_of words = map on_one_line words ++ 10 ∷ []

-- the spaces that let numbers of up to four digits end in one column
abbrev pub padding_of : ℕ → List ℕ
padding_of number =
    if nat_lt number 10 then codes "   " else if nat_lt number 100 then codes "  "
    else if nat_lt number 1000 then codes " " else []

-- the first line of an entry: its number, and words
abbrev pub head_of : ℕ → List ℕ → List ℕ
head_of number words = padding_of number ++ (decimal number ++ (codes "  " ++ line_of words))

-- a further line of an entry
abbrev pub further_of : List ℕ → List ℕ
further_of words = codes "    " ++ line_of words

-- a row of a table: its name, and words
abbrev pub row_of : List ℕ → List ℕ → List ℕ
row_of name words = codes "  " ++ (name ++ line_of words)
