-- The keys of a script's sections.
use Rattle.std.specs.Prelude.{ℕ, List, [], codes}
use Rattle.irp_script_reader.specs.declared.refusal.Section.{Section}
use Rattle.irp_script_reader.specs.declared.refusal.Section.TheVariants as section

-- the key of a section
abbrev pub key_of : Section → List ℕ
key_of section.Top = []
key_of section.Seats = codes "seats"
key_of section.Locks = codes "locks"
key_of section.Slots = codes "slots"
key_of section.Completions = codes "completions"
key_of section.Cancels = codes "cancels"
key_of section.Dispatches = codes "dispatches"
key_of section.Drivers = codes "drivers"
key_of section.Setup = codes "setup"
key_of section.Steps = codes "steps"
