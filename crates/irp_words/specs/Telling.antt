-- What the program prints of a text, and what it says is wrong with one.
use Rattle.std.specs.Prelude.{◌≡◌, ◌⊎◌, ◌==◌, ◌||◌, ℕ, Bool, true, false, not, if◌then◌else◌, IfSome, List, length, Option, Ok, Err, take}
use Rattle.std.specs.Char.{is_ascii_whitespace}
use Rattle.std.specs.Io.KnownBytes.{Appends}
use Rattle.std.specs.List.{find}
use Rattle.std.specs.Option.{option_map_or}
use Rattle.irp_script_reader.specs.Scripts.{ReadsScript}
use Rattle.irp_script_reader.specs.declared.script.Script.{Script}
use Rattle.irp_script_reader.specs.declared.refusal.ScriptRefusal.{ScriptRefusal}
use Rattle.irp_script_reader.specs.declared.refusal.ScriptFault.TheVariants.{Refused}
use Rattle.irp_grammar.specs.Reading.{IsSaidIn}
use Rattle.irp_warnings.specs.Warned.{AreWarnings}
use Rattle.irp_warnings.specs.declared.warning.Warning.{Warning}
use Rattle.irp_words.specs.declared.ending.Ending.{Ending}
use Rattle.irp_words.specs.declared.ending.Ending.TheVariants.{Done, Faulty, Warned, NoMemory, Failed}
use Rattle.irp_words.specs.declared.orders.Task.{Task}
use Rattle.irp_words.specs.declared.orders.Task.TheVariants.{Json, Words, Faults}

-- ---- JSON of words

-- where all was done, the JSON went out of a script that the lines of the text say
abbrev pub Prints : List ℕ → Ending → Option (List ℕ) → Option (List ℕ) → Type 0
Prints text Done before after =
    (script : Script) × (json : List ℕ) × IsSaidIn text script × ReadsScript (Ok script) json × Appends before after json
Prints text ending before after = Unit {0}

-- not all was done, and nothing is hardly meant
abbrev pub Fails : Ending → Type 0
Fails Done = ⊥
Fails Warned = ⊥
Fails ending = Unit {0}

-- ---- faults

-- a text is meant as JSON: it begins with a brace or a bracket, perhaps behind white space
abbrev pub opens_json : ℕ → Bool
opens_json byte = byte == 123 || byte == 91

abbrev pub is_json : List ℕ → Bool
is_json text = option_map_or opens_json (find (λ byte. not (is_ascii_whitespace byte)) text) false

-- a text is read as this script, of JSON or else of words
abbrev pub IsScriptOf : Bool → List ℕ → Script → Type 0
IsScriptOf true text script = ReadsScript (Ok script) text
IsScriptOf false text script = IsSaidIn text script

-- how the program ends where this is hardly meant, if that counts
abbrev pub ending_with : List Warning → Ending
ending_with found = if length found == 0 then Done else Warned

abbrev pub counted : Bool → List Warning → Ending
counted true found = ending_with found
counted false found = Done

-- of this script it is told what is hardly meant; and that counts, or doesn't
pub record IsTold (IsIts : Script → Type 0) (strict : Bool) (ending : Ending) : Type 0 where
  pub script : Script
  pub its : IsIts script
  pub found : List Warning
  pub warnings : AreWarnings script found
  pub ends : ending ≡ counted strict found

-- not all was done; or the text has no fault
abbrev pub EndsOf : (Script → Type 0) → Bool → Ending → Type 0
EndsOf IsIts strict ending = Fails ending ⊎ IsTold IsIts strict ending

abbrev pub TellsFaults : Bool → List ℕ → Ending → Type 0
TellsFaults strict text ending = EndsOf (IsScriptOf (is_json text) text) strict ending

-- a script of JSON is told to be faulty only where it is refused
abbrev pub IsRefused : List ℕ → Ending → Type 0
IsRefused text ending =
    (ending ≡ Faulty) × ((refusal : ScriptRefusal) × ReadsScript (Err (Refused refusal)) text)

-- ---- what goes out

-- all of a text went out, and the program ends so; or the output failed
abbrev pub IsSent : List ℕ → Ending → Option (List ℕ) → Option (List ℕ) → Ending → Type 0
IsSent text wanted before after ending = ((ending ≡ wanted) × Appends before after text) ⊎ (ending ≡ Failed)

-- the program ends so; or the output failed
abbrev pub EndsOrFails : Ending → Ending → Type 0
EndsOrFails wanted ending = (ending ≡ wanted) ⊎ (ending ≡ Failed)

-- what goes out for a task with a text, and how the program ends
abbrev pub Obeys : Task → List ℕ → Ending → Option (List ℕ) → Option (List ℕ) → Type 0
Obeys Json text ending before after = Prints text ending before after
Obeys Words text ending before after = Unit {0}
Obeys (Faults strict) text ending before after = TellsFaults strict text ending

-- this text was taken of the input: its first bytes, where these are known
abbrev pub most_taken : ℕ
most_taken = 1048577

abbrev pub IsTakenOf : Option (List ℕ) → List ℕ → Type 0
IsTakenOf input text = IfSome input (λ bytes. text ≡ take most_taken bytes)

-- the input isn't read; or the task is done with the text that was taken of it
abbrev pub ObeysOn : Task → Option (List ℕ) → Ending → Option (List ℕ) → Option (List ℕ) → Type 0
ObeysOn task input ending before after =
    Fails ending ⊎ ((text : List ℕ) × IsTakenOf input text × Obeys task text ending before after)

-- a whole text went out; else memory ran out, or the output failed
abbrev pub PrintsWhole : Ending → Option (List ℕ) → Option (List ℕ) → Type 0
PrintsWhole Done before after = (text : List ℕ) × Appends before after text
PrintsWhole NoMemory before after = before ≡ after
PrintsWhole Failed before after = Unit {0}
PrintsWhole ending before after = ⊥
