-- Texts in one line.
use Rattle.std.specs.Prelude.{ℕ, Bool, not, List, IsTrue}
use Rattle.std.specs.Char.{is_ascii_control}
use Rattle.std.specs.List.{list_all}

-- whether a byte is no newline and no other control: below a blank, or a delete
abbrev pub is_shown : ℕ → Bool
is_shown byte = not (is_ascii_control byte)

-- no byte of the text is a newline or another control
abbrev pub IsOneLine : List ℕ → Type 0
IsOneLine text = IsTrue (list_all is_shown text)
