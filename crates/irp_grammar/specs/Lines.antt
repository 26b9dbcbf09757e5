-- The lines of a text, and the words of a line.
use Rattle.std.specs.Prelude.{ℕ, ◌==◌, Bool, true, false, List, [], ◌∷◌, map, slice_get, unwrap_or, Option}
use Rattle.std.specs.List.{before_first, filter, flat_map, slice_split}
use Rattle.irp_grammar.specs.declared.{cursor.Cursor.Cursor, cursor.Word.Word}

-- the pieces of a text between bytes that are this one
abbrev pub pieces : ℕ → List ℕ → List (List ℕ)
pieces byte text = slice_split (λ one. one == byte) text

-- a word, unless it is empty
abbrev pub if_some : List ℕ → List (List ℕ)
if_some [] = []
if_some (byte ∷ bytes) = (byte ∷ bytes) ∷ []

-- the words of a text between returns, between tabs, between blanks
abbrev pub between_returns : List ℕ → List (List ℕ)
between_returns text = flat_map if_some (pieces 13 text)

abbrev pub between_tabs : List ℕ → List (List ℕ)
between_tabs text = flat_map between_returns (pieces 9 text)

abbrev pub between_blanks : List ℕ → List (List ℕ)
between_blanks text = flat_map between_tabs (pieces 32 text)

-- what stands before a comment, which begins with `#`
abbrev pub before_comment : List ℕ → List ℕ
before_comment line = before_first (λ byte. byte == 35) line

-- the words of a line: what stands before a comment, parted by blanks, tabs and returns
abbrev pub words_of : List ℕ → List (List ℕ)
words_of line = between_blanks (before_comment line)

-- the lines of a text, which newlines part: the words of each that has some
abbrev pub has_words : List (List ℕ) → Bool
has_words [] = false
has_words (word ∷ words) = true

abbrev pub lines_of : List ℕ → List (List (List ℕ))
lines_of text = filter has_words (map words_of (pieces 10 text))

-- what words say, and what the words that are left of a line say
abbrev pub texts : List Word → List (List ℕ)
texts words = map (λ (word : Word). word.text.now) words

abbrev pub ahead : Cursor → List (List ℕ)
ahead words = texts words.words.now

-- the first word, if there is one; and an empty text else
abbrev pub first_of : List (List ℕ) → Option (List ℕ)
first_of words = slice_get words 0

abbrev pub next_of : List (List ℕ) → List ℕ
next_of words = unwrap_or (first_of words) []
