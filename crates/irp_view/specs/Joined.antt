-- A use of a packet in one word, as messages tell it.
use Rattle.std.specs.Prelude.{◌≡◌, ◌⊎◌, ◌++◌, ◌||◌, Bool, ℕ, List, [], ◌∷◌, true, codes}
use Rattle.std.specs.Str.{bytes_eq}
use Rattle.irp_command_line.specs.CommandLine.{Writes}

-- a text writes a number
abbrev pub IsNumber : List ℕ → Type 0
IsNumber text = (number : ℕ) × Writes text number

-- a word is two numbers with a dot between them, as messages tell a use of a packet
abbrev pub IsJoined : List ℕ → List ℕ → List ℕ → Type 0
IsJoined word slot use_no = (word ≡ slot ++ (46 ∷ use_no)) × IsNumber slot × IsNumber use_no

-- whether the word behind this one may name a use
abbrev pub names_packet : List ℕ → Bool
names_packet word = bytes_eq word (codes "packet") || bytes_eq word (codes "--packet")

-- what is put for a word: two words where it may name a use and does, else itself
abbrev pub IsPut : Bool → List ℕ → List (List ℕ) → Type 0
IsPut may_name word put =
    ((may_name ≡ true) × ((slot use_no : List ℕ) × IsJoined word slot use_no × (put ≡ slot ∷ use_no ∷ [])))
    ⊎ ((may_name ≡ true → (slot use_no : List ℕ) → IsJoined word slot use_no → ⊥) × (put ≡ word ∷ []))

-- what is put for words, where the first of them may name a use or not
abbrev pub ArePut : Bool → List (List ℕ) → List (List ℕ) → Type 0
ArePut may_name [] put = put ≡ []
ArePut may_name (word ∷ words) put =
    (first rest : List (List ℕ)) × IsPut may_name word first × ArePut (names_packet word) words rest
    × (put ≡ first ++ rest)
