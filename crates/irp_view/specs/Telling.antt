-- What is told of a transcript that was read.
use Rattle.std.specs.Prelude.{ℕ, ◌≡◌, ◌⊎◌, ◌==◌, List, [], ◌++◌, codes, length, slice_get, Option, None, Some, if◌then◌else◌}
use Rattle.std.specs.Fmt.{decimal}
use Rattle.irp_types.specs.declared.entry.Entry.{Entry}
use Rattle.irp_transcript.specs.Transcripts.{TranscriptValue}
use Rattle.irp_judge.specs.Checked.{IsExplained, IsVerdictOn, verdict_of}
use Rattle.irp_judge.specs.declared.verdict.Verdict.{Verdict}
use Rattle.irp_judge.specs.declared.verdict.Wrong.{Wrong}
use Rattle.irp_streams.specs.Streams.{Bytes}
use Rattle.irp_listing.specs.Lines.{line_of}
use Rattle.irp_streams.specs.Writing.{BreaksOff, IsQuiet, Written}
use Rattle.irp_streams.specs.declared.reading.StreamFault.{StreamFault}
use Rattle.irp_streams.specs.declared.reading.StreamFault.TheVariants.{NoMemory}
use Rattle.irp_view.specs.Blocks.{IsWhy}
use Rattle.irp_view.specs.RefusedCalls.{refused_from, refused_line}

-- the noun for so many entries
abbrev pub entry_noun : ℕ → List ℕ
entry_noun count = if count == 1 then codes "entry" else codes "entries"

-- the line for a legal history of so many entries
abbrev pub legal_line : ℕ → List ℕ
legal_line count =
    line_of (codes "nothing is wrong: " ++ (decimal count ++ (codes " " ++ (entry_noun count ++ codes ", legal"))))

-- the line for so many word lines, which aren't judged; there is none where there are no word lines
abbrev pub note_line : ℕ → List ℕ
note_line count =
    if count == 0 then [] else line_of
    (codes "word lines: " ++ (decimal count ++ codes ", read for their form, not judged"))

-- what is told of these entries, where this is wrong with them, or nothing: a line, and one for the refused calls; or
-- the block for the entry that is wrong
abbrev pub IsAnswer : List Entry → Option Wrong → List ℕ → Type 0
IsAnswer entries None answer = answer ≡ legal_line (length entries) ++ refused_line (refused_from 0 entries)
IsAnswer entries (Some wrong) answer =
    (entry : Entry) → slice_get entries wrong.at ≡ Some entry → IsWhy entry wrong answer

-- it was put behind what stood there
pub record AddsText (entries : List Entry) (wrong : Option Wrong) (before after : List ℕ) : Type 0 where
  pub answer : List ℕ
  pub is : IsAnswer entries wrong answer
  pub put : after ≡ before ++ answer

-- all that is told of a transcript: this, and the line for its word lines
pub record IsText (transcript : TranscriptValue) (wrong : Option Wrong) (text : List ℕ) : Type 0 where
  pub answer : List ℕ
  pub is : IsAnswer transcript.entries wrong answer
  pub whole : text ≡ answer ++ note_line (length transcript.words)

-- this is what is wrong with the transcript, or nothing, this the verdict on it, and this the text that tells it
pub record Tells (transcript : TranscriptValue) (verdict : Verdict) (text : List ℕ) : Type 0 where
  pub wrong : Option Wrong
  pub explained : IsExplained transcript wrong
  pub verdict_is : verdict ≡ verdict_of (length transcript.entries) wrong
  pub judged : IsVerdictOn transcript verdict
  pub is_text : IsText transcript wrong text

-- the text went out, and nothing failed
abbrev pub Says : TranscriptValue → Bytes → Bytes → ℕ → ℕ → Verdict → Type 0
Says transcript old new before after verdict =
    (text : List ℕ) × Tells transcript verdict text × Written text old new before after

-- it didn't: a beginning of it went out, before this fault; or nothing was told, for want of memory
abbrev pub SaysNothing : TranscriptValue → Bytes → Bytes → ℕ → ℕ → StreamFault → Type 0
SaysNothing transcript old new before after fault =
    ((verdict : Verdict) × (text : List ℕ) × Tells transcript verdict text
    × BreaksOff text old new before after fault)
    ⊎ ((fault ≡ NoMemory) × IsQuiet old new before after)
