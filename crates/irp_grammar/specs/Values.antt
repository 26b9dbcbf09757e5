-- What stands under the keys of steps and behind the names of plans, each by its words.
use Rattle.std.specs.Prelude.{ℕ, ◌≡◌, ◌||◌, bytes_eq, true, if◌then◌else◌, List, [], ◌∷◌, ◌++◌, codes, drop, length, MatchOption, slice_get, slice_set, suc, zero, Option, Some, None}
use Rattle.irp_types.specs.declared.{names.IrpRef.IrpRef, routine.RoutineId.RoutineId, routine.Setting.Setting}
use Rattle.irp_forms.specs.Names.{every_flags, first_named, flagged, flags_name, rule_name, rules}
use Rattle.irp_forms.specs.Steps.{ActKey}
use Rattle.irp_forms.specs.declared.key_parts.Part.{Part}
use Rattle.irp_forms.specs.declared.key_parts.Part.TheVariants as part
use Rattle.irp_forms.specs.declared.names.Flags.{Flags}
use Rattle.irp_script_reader.specs.Labels.{is_label}
use Rattle.irp_script_reader.specs.declared.act.Named.{Named}
use Rattle.irp_script_reader.specs.declared.act.Named.TheVariants as named
use Rattle.irp_grammar.specs.Lines.{next_of}
use Rattle.irp_grammar.specs.Naming.{Given, IsFound, IsPlaced, Naming, TakesNumber, routine_of}
use Rattle.irp_grammar.specs.Numbers.{number_in}
use Rattle.irp_grammar.specs.Saying.{none}
use Rattle.irp_grammar.specs.declared.step_line.Value.{Value}
use Rattle.irp_grammar.specs.declared.step_line.Value.TheVariants as value

-- ---- settings

-- a completion routine: a name of one; or a rule, and a number within it
abbrev pub IsRoutineOf : List Naming → Option Naming → List (List ℕ) → List (List ℕ) → RoutineId → Type 0
IsRoutineOf names (Some naming) words rest routine = (routine ≡ routine_of naming) × (rest ≡ drop 1 words)
IsRoutineOf names None words rest routine =
    (first_named rule_name rules (next_of words) ≡ Some routine.rule) × TakesNumber names part.Tag (drop 1 words) rest routine.no

abbrev pub TakesRoutine : List Naming → List (List ℕ) → List (List ℕ) → RoutineId → Type 0
TakesRoutine names words rest routine =
    (found : Option Naming) × IsFound names part.Routine (next_of words) found × IsRoutineOf names found words rest routine

-- the flags that a word is: none are `-`
unfoldable pub flags_in : List ℕ → Option Flags
flags_in word =
    if bytes_eq word [] then None
    else first_named flags_name every_flags (if bytes_eq word (codes "-") then [] else word)

abbrev pub flags_of : Setting → Flags
flags_of setting = flagged setting.on_success setting.on_error setting.on_cancel

-- a setting: the completion routine, the context, the flags
abbrev pub TakesSetting : List Naming → List (List ℕ) → List (List ℕ) → Setting → Type 0
TakesSetting names words rest setting =
    (behind between : List (List ℕ)) × TakesRoutine names words behind setting.routine
    × TakesNumber names part.Information behind between setting.context
    × (flags_in (next_of between) ≡ Some (flags_of setting)) × (rest ≡ drop 1 between)

-- ---- packets

-- a packet by its slot and its use number, as 0.1
abbrev pub IsUse : List ℕ → IrpRef → Type 0
IsUse word irp =
    (slot use_no : List ℕ) × (word ≡ slot ++ 46 ∷ use_no) × (irp.slot ≡ number_in slot) × (irp.use_no ≡ number_in use_no)

-- a packet, or a label, as the word names it
abbrev pub IsPacket : List ℕ → Named → Given → Given → Type 0
IsPacket word (named.Label place) old new =
    (is_label word ≡ true) × IsPlaced old.labels word place new.labels × (new ≡ record old { labels = new.labels })
IsPacket word (named.Irp irp) old new = IsUse word irp × (new ≡ old)

-- ---- values

-- what a word is that such a part has beside numbers and names; what may be left out is null at the line's end
unfoldable pub plain : Part → List ℕ → Option Value
plain part.Party word =
    if bytes_eq word (codes "o") || bytes_eq word (codes "originator") then Some value.Originator else None
plain part.CancelOrNull word = if bytes_eq word (codes "none") then Some value.Null else None
plain part.CancelOrEnd word = if bytes_eq word [] then Some value.Null else None
plain part.SettingOrEnd word = if bytes_eq word [] then Some value.Null else None
plain others word = None

abbrev pub SaysNumber : Part → List (List ℕ) → List (List ℕ) → Value → Given → Given → Type 0
SaysNumber its words rest said old new =
    (number : ℕ) × (said ≡ value.Number number) × TakesNumber old.names its words rest number × (new ≡ old)

abbrev pub SaysPacket : List (List ℕ) → List (List ℕ) → Value → Given → Given → Type 0
SaysPacket words rest said old new =
    (packet : Named) × (said ≡ value.Packet packet) × IsPacket (next_of words) packet old new × (rest ≡ drop 1 words)

abbrev pub SaysSetting : List (List ℕ) → List (List ℕ) → Value → Given → Given → Type 0
SaysSetting words rest said old new =
    (setting : Setting) × (said ≡ value.Set setting) × TakesSetting old.names words rest setting × (new ≡ old)

-- the value of such a part that the next words are, where they are none of those
abbrev pub SaysOther : Part → List (List ℕ) → List (List ℕ) → Value → Given → Given → Type 0
SaysOther part.Label words rest said old new = SaysPacket words rest said old new
SaysOther part.Packet words rest said old new = SaysPacket words rest said old new
SaysOther part.Setting words rest said old new = SaysSetting words rest said old new
SaysOther part.SettingOrEnd words rest said old new = SaysSetting words rest said old new
SaysOther its words rest said old new = SaysNumber its words rest said old new

abbrev pub IsThis : List (List ℕ) → List (List ℕ) → Value → Given → Given → Value → Type 0
IsThis words rest said old new known = (said ≡ known) × (rest ≡ drop 1 words) × (new ≡ old)

abbrev pub SaysValue : Part → List (List ℕ) → List (List ℕ) → Value → Given → Given → Type 0
SaysValue its words rest said old new =
    MatchOption (plain its (next_of words)) (SaysOther its words rest said old new) (IsThis words rest said old new)

-- ---- the values behind a plan's name, and under a step's keys

-- the value of the part at a place, which comes to that place
abbrev pub TakesPart : ℕ → List Part → List (List ℕ) → List (List ℕ) → List Value → List Value → Given → Given → Type 0
TakesPart place parts words rest before after old new =
    (its : Part) × (said : Value) × (slice_get parts place ≡ Some its) × SaysValue its words rest said old new
    × (after ≡ slice_set before place said)

-- the values of so many parts, one behind the other
abbrev pub TakeParts : ℕ → List Part → List (List ℕ) → List (List ℕ) → List Value → List Value → Given → Given → Type 0
TakeParts zero parts words rest before after old new = (rest ≡ words) × (after ≡ before) × (new ≡ old)
TakeParts (suc count) parts words rest before after old new =
    (behind : List (List ℕ)) × (between : List Value) × (given : Given)
    × TakeParts count parts words behind before between old given × TakesPart count parts behind rest between after given new

-- those of all parts
abbrev pub ArePartValues : List Part → List (List ℕ) → List (List ℕ) → List Value → Given → Given → Type 0
ArePartValues parts words rest values old new = TakeParts (length parts) parts words rest none values old new

-- a word is the key at a place, where nothing stands yet
abbrev pub IsKeyAt : List ActKey → List Value → List ℕ → ℕ → Part → Type 0
IsKeyAt keys values word place its = (slice_get keys place ≡ Some (word, its)) × (slice_get values place ≡ Some value.Absent)

-- a key, and behind it the words of its value, which comes to the key's place
abbrev pub TakesKey : List ActKey → List (List ℕ) → List (List ℕ) → List Value → List Value → Given → Given → Type 0
TakesKey keys words rest before after old new =
    (place : ℕ) × (its : Part) × (said : Value) × IsKeyAt keys before (next_of words) place its
    × SaysValue its (drop 1 words) rest said old new × (after ≡ slice_set before place said)

-- so many keys, one behind the other
abbrev pub TakeKeys : ℕ → List ActKey → List (List ℕ) → List (List ℕ) → List Value → List Value → Given → Given → Type 0
TakeKeys zero keys words rest before after old new = (rest ≡ words) × (after ≡ before) × (new ≡ old)
TakeKeys (suc count) keys words rest before after old new =
    (behind : List (List ℕ)) × (between : List Value) × (given : Given)
    × TakeKeys count keys words behind before between old given × TakesKey keys behind rest between after given new

-- all keys, each once, in any order
abbrev pub AreKeyValues : List ActKey → List (List ℕ) → List (List ℕ) → List Value → Given → Given → Type 0
AreKeyValues keys words rest values old new = TakeKeys (length keys) keys words rest none values old new
