-- What is written of the faults of a text in words: a line for each.
use Rattle.std.specs.Prelude.{ℕ, ◌≡◌, ◌≢◌, ◌==◌, List, [], ◌∷◌, ◌++◌, codes, if◌then◌else◌, Option, Some, None}
use Rattle.std.specs.Borrow.{Bor}
use Rattle.std.specs.Fmt.{decimal}
use Rattle.std.specs.List.{flat_map}
use Rattle.irp_names.specs.Sinks.{Says, in_marks}
use Rattle.irp_forms.specs.Steps.{ActKey, act_word, keys_of}
use Rattle.irp_forms.specs.declared.step_names.ActKind.{ActKind}
use Rattle.irp_grammar.specs.declared.cursor.WordsFault.{WordsFault}
use Rattle.irp_grammar.specs.declared.wanted.Wanted.{Wanted}
use Rattle.irp_grammar.specs.declared.wanted.Wanted.TheVariants as wanted

-- the word that stands there, or that none does
abbrev pub word_said : Option (Bor (List ℕ)) → List ℕ
word_said (Some word) = in_marks word.now
word_said None = codes "the line ends"

-- the place of a fault, and what stands there
abbrev pub place_said : WordsFault → List ℕ
place_said fault =
    if fault.line == 0 then codes "the text"
    else codes "line " ++ (decimal fault.line ++ (codes ", column " ++ (decimal fault.column
    ++ (codes ": " ++ word_said fault.word))))

-- what may be meant
abbrev pub hint_said : Option (Bor (List ℕ)) → List ℕ
hint_said None = []
hint_said (Some hint) = codes ". Did you mean " ++ (hint.now ++ codes "?")

-- an act, and its keys
abbrev pub key_said : ActKey → List ℕ
key_said key = codes " " ++ key.0

abbrev pub keys_said : ActKind → List ℕ
keys_said act = act_word act ++ (codes ", each once:" ++ flat_map key_said (keys_of act))

-- what was expected: of a key of an act exactly these words, else some
abbrev pub IsExpected : Wanted → List ℕ → Type 0
IsExpected (wanted.Key act) words = words ≡ codes "a key of " ++ keys_said act
IsExpected other words = words ≢ []

-- the line of a fault
pub record IsFaultLine (fault : WordsFault) (line : List ℕ) : Type 0 where
  pub expected : List ℕ
  pub wanted : IsExpected fault.wanted expected
  pub whole : line ≡ place_said fault
      ++ (codes "; expected " ++ (expected ++ (hint_said fault.hint ++ codes "\n")))

-- a line for each of these faults, in order, and nothing else
abbrev pub AreFaultLines : List WordsFault → List ℕ → Type 0
AreFaultLines [] text = text ≡ []
AreFaultLines (fault ∷ faults) text =
    (line : List ℕ) × (rest : List ℕ) × IsFaultLine fault line × AreFaultLines faults rest
    × (text ≡ line ++ rest)

-- ---- how it is put

-- words of which this holds were put, or memory ran out; any words
pub record SaysOne (Holds : List ℕ → Type 0) (before after : Option (List ℕ)) : Type 0 where
  pub words : List ℕ
  pub holds : Holds words
  pub says : Says words before after

abbrev pub SaysAny : Option (List ℕ) → Option (List ℕ) → Type 0
SaysAny before after = SaysOne (λ words. Unit {0}) before after

-- how the words for what was expected begin, and how they end
abbrev pub Begins : Wanted → List ℕ → Type 0
Begins (wanted.Key act) words = words ≡ codes "a key of "
Begins other words = words ≢ []

abbrev pub Ends : Wanted → List ℕ → Type 0
Ends (wanted.Key act) words = words ≡ keys_said act
Ends other words = Unit {0}
