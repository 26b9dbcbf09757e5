-- What is written of a fault: where it stands, and what is said of it.
use Rattle.std.specs.Prelude.{ℕ, List, [], ◌++◌, codes, string_bytes}
use Rattle.std.specs.Fmt.{decimal}
use Rattle.irp_script_reader.specs.declared.refusal.ScriptRefusal.{ScriptRefusal}
use Rattle.irp_script_reader.specs.declared.refusal.ScriptRefusal.TheVariants as refusal
use Rattle.irp_script_reader.specs.declared.refusal.Section.{Section}
use Rattle.irp_script_reader.specs.declared.refusal.Section.TheVariants as section
use Rattle.irp_text_faults.specs.Keys.{key_of}
use Rattle.irp_text_faults.specs.declared.message.FaultMessage.{FaultMessage}
use Rattle.irp_text_faults.specs.declared.places.Place.{Place}

-- a line and a column
abbrev pub place_text : Place → List ℕ
place_text place =
    codes "line " ++ (decimal place.line ++ (codes ", column " ++ (decimal place.column ++ codes ": ")))

-- which member of a section is meant; none of a number
abbrev pub member_text : Section → ℕ → List ℕ
member_text section.Seats index = []
member_text section.Locks index = []
member_text section.Slots index = []
member_text list index = codes "[" ++ (decimal index ++ codes "]")

-- a section, and which of its members is meant; nothing of the top
abbrev pub named_text : Section → ℕ → List ℕ
named_text section index = key_of section ++ (member_text section index ++ codes ", ")

abbrev pub section_text : Section → ℕ → List ℕ
section_text section.Top index = []
section_text other index = named_text other index

-- the part that a refusal names
abbrev pub part_text : ScriptRefusal → List ℕ
part_text (refusal.At fault section index) = section_text section index
part_text other = []

-- a message: the part, its place, and what is said of it
abbrev pub message_text : FaultMessage → List ℕ
message_text fault = part_text fault.refusal ++ (place_text fault.place ++ string_bytes fault.words)
