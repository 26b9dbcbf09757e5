-- Which bytes of a text belong to the part of a script that a refusal names.
use Rattle.std.specs.Prelude.{ℕ, ◌≡◌, ◌<◌, ◌≤◌, ◌==◌, codes, length, List}
use Rattle.std.specs.Bool.{MatchBool}
use Rattle.irp_text_faults.specs.Keys.{key_of}
use Rattle.irp_text_faults.specs.Reading.{read_through}
use Rattle.irp_text_faults.specs.declared.reading.Reading.{Reading}
use Rattle.irp_text_faults.specs.declared.reading.Sought.{Sought}
use Rattle.irp_script_reader.specs.declared.refusal.ScriptRefusal.{ScriptRefusal}
use Rattle.irp_script_reader.specs.declared.refusal.ScriptRefusal.TheVariants as refusal
use Rattle.irp_script_reader.specs.declared.refusal.Section.{Section}
use Rattle.irp_script_reader.specs.declared.refusal.Section.TheVariants as section

-- what is under a key
abbrev pub value : Sought
value = record { depth = 1; index = 0 }

-- a member of the list there, counted from 0
abbrev pub member : ℕ → Sought
member place = record { depth = 2; index = place }

-- a byte of what was sought, if that was found; else this holds
abbrev pub IsIn : Reading → ℕ → Type 0 → Type 0
IsIn read at Otherwise = MatchBool (read.end == 0) Otherwise ((read.start ≤ at) × (at < read.end))

-- a byte of the text, or its end
abbrev pub InText : List ℕ → ℕ → Type 0
InText text at = at ≤ length text

-- a byte of the value under a key; where there is none, of the text
abbrev pub InValue : List ℕ → List ℕ → ℕ → Type 0
InValue key text at = IsIn (read_through key value text text) at (InText text at)

-- a byte of a member of the list under a key; where there is none, of the value
abbrev pub InMember : List ℕ → ℕ → List ℕ → ℕ → Type 0
InMember key place text at = IsIn (read_through key (member place) text text) at (InValue key text at)

-- a byte of a section, or of its member at a place
abbrev pub InSection : Section → ℕ → List ℕ → ℕ → Type 0
InSection section.Top place text at = InText text at
InSection section.Seats place text at = InValue (key_of section.Seats) text at
InSection section.Locks place text at = InValue (key_of section.Locks) text at
InSection section.Slots place text at = InValue (key_of section.Slots) text at
InSection list place text at = InMember (key_of list) place text at

-- a byte of the part that a refusal names; of a text that is too long the first that is too much
abbrev pub InPart : ScriptRefusal → List ℕ → ℕ → Type 0
InPart refusal.TooLong text at = at ≡ 1048576
InPart refusal.NotJson text at = InText text at
InPart refusal.BadForm text at = InValue (codes "form") text at
InPart (refusal.At fault section place) text at = InSection section place text at
