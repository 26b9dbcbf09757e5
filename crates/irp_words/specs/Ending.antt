-- The exit statuses, and the lines for standard error.
use Rattle.std.specs.Prelude.{ℕ, List, ◌++◌, codes, Bool, true, false, Option, Some, string_bytes}
use Rattle.irp_words.specs.declared.ending.Ending.{Ending}
use Rattle.irp_words.specs.declared.ending.Ending.TheVariants.{
  Done,
  Faulty,
  Warned,
  Differs,
  NoMemory,
  OtherWords,
  NoFile,
  Failed,
}
use Rattle.irp_program.specs.Opening.{reason_text}
use Rattle.irp_program.specs.declared.opening.Unopened.{Unopened}
use Rattle.irp_program.specs.declared.opening.Unopened.TheVariants as unopened
use Rattle.irp_program.specs.declared.words.Unasked.{Unasked}
use Rattle.irp_program.specs.declared.words.Unasked.TheVariants as unasked
use Rattle.irp_streams.specs.declared.reading.StreamFault.{StreamFault}
use Rattle.irp_streams.specs.declared.reading.StreamFault.TheVariants as stream

-- other words, or want of memory for them
abbrev pub of_words : Unasked → Ending
of_words unasked.Usage = OtherWords
of_words unasked.NoMemory = NoMemory

-- a file that isn't opened
abbrev pub of_unopened : Unopened → Ending
of_unopened (unopened.NoFile name reason) = NoFile name reason
of_unopened unopened.NoMemory = NoMemory

-- an input that isn't read
abbrev pub of_unread : StreamFault → Ending
of_unread stream.Failed = Failed
of_unread stream.NoMemory = NoMemory

-- the exit status of an ending
abbrev pub status_of : Ending → ℕ
status_of Done = 0
status_of Faulty = 1
status_of Differs = 1
status_of Warned = 2
status_of NoMemory = 3
status_of OtherWords = 4
status_of (NoFile name reason) = 5
status_of Failed = 5

-- whether an ending has a line for standard error
abbrev pub has_line : Ending → Bool
has_line Done = false
has_line Faulty = false
has_line Warned = false
has_line ending = true

-- the line for standard error, without its newline
abbrev pub complaint_of : Ending → Option (List ℕ)
complaint_of Done = Some (codes "")
complaint_of Faulty = Some (codes "")
complaint_of Warned = Some (codes "")
complaint_of Differs =
    Some (codes "irp: a fault of this program: the JSON isn't read as what the words say")
complaint_of NoMemory = Some (codes "irp: out of memory")
complaint_of OtherWords =
    Some (codes "irp: usage: irp words json, words or faults [FILE], or tables; see irp words --help")
complaint_of (NoFile name reason) =
    Some (codes "irp: " ++ (string_bytes name ++ (codes ": can't be opened: " ++ reason_text reason)))
complaint_of Failed = Some (codes "irp: input or output failed")
