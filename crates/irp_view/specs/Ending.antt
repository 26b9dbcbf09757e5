-- The exit statuses, and the lines for standard error.
use Rattle.std.specs.Prelude.{ℕ, List, ◌++◌, codes, Bool, true, false, Option, Some, Result, Ok, Err, string_bytes}
use Rattle.std.specs.Fmt.{decimal}
use Rattle.irp_judge.specs.declared.verdict.Verdict.{Verdict}
use Rattle.irp_judge.specs.declared.verdict.Verdict.TheVariants as verdict
use Rattle.irp_streams.specs.declared.reading.StreamFault.{StreamFault}
use Rattle.irp_streams.specs.declared.reading.StreamFault.TheVariants as unwritten
use Rattle.irp_program.specs.Opening.{reason_text}
use Rattle.irp_program.specs.declared.opening.Unopened.{Unopened}
use Rattle.irp_program.specs.declared.opening.Unopened.TheVariants as unopened
use Rattle.irp_program.specs.declared.words.Unasked.{Unasked}
use Rattle.irp_program.specs.declared.words.Unasked.TheVariants as unasked
use Rattle.irp_view.specs.Refusals.{expected_text}
use Rattle.irp_view.specs.declared.ending.Ending.{Ending}
use Rattle.irp_view.specs.declared.ending.Ending.TheVariants.{
  Done,
  Refused,
  Wrong,
  NoMemory,
  OtherWords,
  NoFile,
  Failed,
}
use Rattle.irp_view.specs.declared.listing.Unshown.{Unshown}
use Rattle.irp_view.specs.declared.listing.Unshown.TheVariants as unshown
use Rattle.irp_view.specs.declared.reading.Unread.{Unread}
use Rattle.irp_view.specs.declared.reading.Unread.TheVariants as unread

-- ---- what each fault ends with

-- other words, or want of memory for them
abbrev pub of_words : Unasked → Ending
of_words unasked.Usage = OtherWords
of_words unasked.NoMemory = NoMemory

-- a file that isn't opened
abbrev pub of_unopened : Unopened → Ending
of_unopened (unopened.NoFile name reason) = NoFile name reason
of_unopened unopened.NoMemory = NoMemory

-- no transcript
abbrev pub of_unread : Unread → Ending
of_unread unread.Input = Failed
of_unread (unread.Refused line expected) = Refused line expected
of_unread unread.NoMemory = NoMemory

-- a text that wasn't written whole
abbrev pub of_unwritten : StreamFault → Ending
of_unwritten unwritten.Failed = Failed
of_unwritten unwritten.NoMemory = NoMemory

-- entries that weren't all shown
abbrev pub of_unshown : Unshown → Ending
of_unshown (unshown.Unread fault) = of_unread fault
of_unshown (unshown.Unwritten fault) = of_unwritten fault

-- a verdict that was told
abbrev pub of_verdict : Verdict → Ending
of_verdict (verdict.Legal entries) = Done
of_verdict (verdict.Illegal at) = Wrong

-- what a result ends with
abbrev pub ending_of : {T : Type 0} → (T → Ending) → Result T StreamFault → Ending
ending_of of_value (Ok value) = of_value value
ending_of of_value (Err fault) = of_unwritten fault

-- ---- what an ending is seen by

-- the exit status of an ending
abbrev pub status_of : Ending → ℕ
status_of Done = 0
status_of (Refused line expected) = 1
status_of Wrong = 2
status_of NoMemory = 3
status_of OtherWords = 4
status_of (NoFile name reason) = 5
status_of Failed = 5

-- whether an ending has a line for standard error
abbrev pub has_line : Ending → Bool
has_line Done = false
has_line Wrong = false
has_line ending = true

-- the line for standard error, where it tells of no part of the ending
abbrev pub plain_line : Ending → List ℕ
plain_line Done = codes ""
plain_line (Refused line expected) = codes ""
plain_line Wrong = codes ""
plain_line NoMemory = codes "irp: out of memory"
plain_line OtherWords =
    codes "irp: usage: irp why, text, story or packet SLOT USE, then [FILE]; see irp --help"
plain_line (NoFile name reason) = codes ""
plain_line Failed = codes "irp: input or output failed"

-- the line for standard error, without its newline
abbrev pub complaint_of : Ending → Option (List ℕ)
complaint_of (Refused line expected) =
    Some (codes "irp: transcript refused: line " ++ (decimal line ++ expected_text expected))
complaint_of (NoFile name reason) =
    Some (codes "irp: " ++ (string_bytes name ++ (codes ": can't be opened: " ++ reason_text reason)))
complaint_of ending = Some (plain_line ending)
