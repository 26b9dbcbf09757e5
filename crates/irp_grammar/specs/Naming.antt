-- What stands for a number in words: its digits, a name that a line has given, or a name that Windows has.
use Rattle.std.specs.Prelude.{ℕ, ◌≡◌, ◌≢◌, ◌⊎◌, ◌+◌, true, MatchBool, List, [], ◌∷◌, ◌++◌, drop, length, map, min, option_map, slice_get, Option, Some, None}
use Rattle.std.specs.Borrow.{Bor}
use Rattle.std.specs.Prelude.{Contains}
use Rattle.irp_types.specs.declared.routine.{Known.Known, RoutineId.RoutineId, Rule.Rule}
use Rattle.irp_types.specs.declared.routine.Rule.TheVariants as rule
use Rattle.irp_forms.specs.declared.key_parts.Part.{Part}
use Rattle.irp_forms.specs.declared.key_parts.Part.TheVariants as part
use Rattle.irp_names.specs.Majors.{major_rows}
use Rattle.irp_names.specs.Minors.{minor_rows, number_of}
use Rattle.irp_names.specs.Rows.{named}
use Rattle.irp_names.specs.Statuses.{status_named}
use Rattle.irp_grammar.specs.Lines.{next_of}
use Rattle.irp_grammar.specs.Numbers.{begins_with_digit, has_byte, number_in}
use Rattle.irp_grammar.specs.declared.names.{Name.Name, Names.Names}

-- ---- names

-- a name: of what part, its text, and its number, which is within a rule where it is a completion routine's
pub record Naming : Type 0 where
  pub part : Part
  pub text : List ℕ
  pub number : ℕ
  pub rule : Rule

-- the names and the labels that there are
abbrev pub naming_of : Name → Naming
naming_of name = record { part = name.part; text = name.text.now; number = name.number; rule = name.rule }

abbrev pub namings : Names → List Naming
namings names = map naming_of names.names.items

abbrev pub label_texts : Names → List (List ℕ)
label_texts names = map (λ (label : Bor (List ℕ)). label.now) names.labels.items

-- the names and the labels that lines have given so far, how many devices their steps create, and how many completion
-- routines of each rule they have
pub record Given : Type 0 where
  pub names : List Naming
  pub labels : List (List ℕ)
  pub devices : ℕ
  pub counts : Known

-- a name more
abbrev pub with_name : Part → Rule → List ℕ → ℕ → Given → Given
with_name its within text number old =
    record old { names = old.names ++ record { part = its; text = text; number = number; rule = within } ∷ [] }

-- a word is a name of such a part
abbrev pub IsNameOf : Part → List ℕ → Naming → Type 0
IsNameOf its word naming = (naming.part ≡ its) × (naming.text ≡ word)

-- the name that a word is of such a part, or that it is none
abbrev pub IsFound : List Naming → Part → List ℕ → Option Naming → Type 0
IsFound names its word (Some naming) = Contains names naming × IsNameOf its word naming
IsFound names its word None = (naming : Naming) → Contains names naming → ¬ (IsNameOf its word naming)

-- the part whose names a part has: a party is a device
abbrev pub named_as : Part → Part
named_as part.Party = part.Device
named_as part.CancelOrNull = part.Cancel
named_as part.CancelOrEnd = part.Cancel
named_as others = others

-- the completion routine that has a name
abbrev pub routine_of : Naming → RoutineId
routine_of naming = record { rule = naming.rule; no = naming.number }

abbrev pub IsRoutineNamed : List Naming → List ℕ → Option RoutineId → Type 0
IsRoutineNamed names word routine =
    (found : Option Naming) × IsFound names part.Routine word found × (routine ≡ option_map routine_of found)

-- ---- labels

-- a label has its place among those that were named so far, and comes behind them where it is new
abbrev pub IsPlace : List (List ℕ) → List ℕ → Option ℕ → Type 0
IsPlace labels label (Some place) = slice_get labels place ≡ Some label
IsPlace labels label None = ¬ (Contains labels label)

abbrev pub IsPlaced : List (List ℕ) → List ℕ → ℕ → List (List ℕ) → Type 0
IsPlaced old label place new =
    (IsPlace old label (Some place) × (new ≡ old))
    ⊎ (IsPlace old label None × (place ≡ length old) × (new ≡ old ++ label ∷ []))

-- ---- numbers

-- a device by its number, as D2; and the names that Windows has for statuses, major and minor function codes
abbrev pub IsKnown : Part → List ℕ → ℕ → Type 0
IsKnown part.Device word number = (has_byte word 0 68 ≡ true) × (number ≡ number_in (drop 1 word))
IsKnown part.Status word number = status_named word ≡ Some number
IsKnown part.Major word number = named major_rows number ≡ Some word
IsKnown part.Word word number = number_of word minor_rows ≡ Some number
IsKnown others word number = ⊥

-- a name stands for its number, before all that Windows names so
abbrev pub IsMeant : Part → List ℕ → Option Naming → ℕ → Type 0
IsMeant its word (Some naming) number = number ≡ naming.number
IsMeant its word None number = IsKnown its word number

abbrev pub IsNamed : List Naming → Part → List ℕ → ℕ → Type 0
IsNamed names its word number = (found : Option Naming) × IsFound names its word found × IsMeant its word found number

-- the number of such a part that a word is
abbrev pub IsNumber : List Naming → Part → List ℕ → ℕ → Type 0
IsNumber names its word number =
    MatchBool (begins_with_digit word) (number ≡ number_in word) (IsNamed names (named_as its) word number)

-- the number that the next word is
abbrev pub TakesNumber : List Naming → Part → List (List ℕ) → List (List ℕ) → ℕ → Type 0
TakesNumber names its words rest number = IsNumber names its (next_of words) number × (rest ≡ drop 1 words)

-- ---- names that lines give

-- the name before a colon that a word is, or that it is none
abbrev pub IsNameIn : List ℕ → Option (List ℕ) → Type 0
IsNameIn word (Some name) = word ≡ name ++ 58 ∷ []
IsNameIn word None = (name : List ℕ) → word ≢ name ++ 58 ∷ []

abbrev pub behind : Option (List ℕ) → List (List ℕ) → List (List ℕ)
behind (Some name) words = drop 1 words
behind None words = words

abbrev pub with_name_if : Part → Rule → Option (List ℕ) → ℕ → Given → Given
with_name_if its within (Some name) number old = with_name its within name number old
with_name_if its within None number old = old

-- a line may begin with a name before a colon, which stands for this number from then on
pub record TakesName (its : Part) (within : Rule) (number : ℕ) (words rest : List (List ℕ)) (old new : Given) : Type 0 where
  pub name : Option (List ℕ)
  pub is : IsNameIn (next_of words) name
  pub behind : rest ≡ behind name words
  pub given : new ≡ with_name_if its within name number old

-- numbers from this one on have the words as their names
abbrev pub with_names : Part → ℕ → List (List ℕ) → Given → Given
with_names its from [] old = old
with_names its from (word ∷ words) old = with_names its (from + 1) words (with_name its rule.Watch word from old)

-- one more device, and one more completion routine of a rule
abbrev pub one_more : ℕ → ℕ
one_more count = min (count + 1) 4294967295

abbrev pub with_routine : Rule → Known → Known
with_routine rule.Watch counts = record counts { watch = one_more counts.watch }
with_routine rule.Change counts = record counts { change = one_more counts.change }
with_routine rule.Keeper counts = record counts { keeper = one_more counts.keeper }
with_routine rule.KeepOnError counts = record counts { keep_on_error = one_more counts.keep_on_error }
with_routine rule.Free counts = record counts { free = one_more counts.free }
