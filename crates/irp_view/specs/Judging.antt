-- How the transcript in an input is judged.
use Rattle.std.specs.Prelude.{◌≡◌, List, length, slice_get, Option, Some, None, Result, Ok, Err}
use Rattle.irp_types.specs.declared.entry.Entry.{Entry}
use Rattle.irp_transcript.specs.Transcripts.{TranscriptValue}
use Rattle.irp_judge.specs.Checked.{IsExplained, IsVerdictOn, verdict_of}
use Rattle.irp_judge.specs.Judging.{HasJudged, JudgeValue}
use Rattle.irp_judge.specs.declared.verdict.Wrong.{Wrong}
use Rattle.irp_feed.specs.Feeding.{Fails}
use Rattle.irp_feed.specs.Input.{Bytes, Holds}
use Rattle.irp_view.specs.Reading.{line_of}
use Rattle.irp_view.specs.RefusedCalls.{HasNoted}
use Rattle.irp_view.specs.declared.judging.Found.{Found}
use Rattle.irp_view.specs.declared.judging.Judged.{Judged}
use Rattle.irp_view.specs.declared.judging.Kept.{Kept}
use Rattle.irp_view.specs.declared.reading.Unread.{Unread}

-- ---- what is judged

-- where something is wrong with these entries, this is the entry that is wrong
abbrev pub IsKept : List Entry → Option Wrong → Option Entry → Type 0
IsKept entries None kept = Unit {0}
IsKept entries (Some wrong) kept = slice_get entries wrong.at ≡ kept

-- this was found in the transcript
pub record IsFound (transcript : TranscriptValue) (found : Found) : Type 0 where
  pub entries : found.entries ≡ length transcript.entries
  pub words : found.words ≡ length transcript.words
  pub explained : IsExplained transcript found.wrong
  pub judged : IsVerdictOn transcript (verdict_of (length transcript.entries) found.wrong)
  pub entry : IsKept transcript.entries found.wrong found.entry
  pub noted : HasNoted found.refused transcript.entries

-- the lines of this transcript were taken, and its entries judged
pub record IsJudged (judge : JudgeValue) (kept : Kept) (transcript : TranscriptValue) : Type 0 where
  pub header : transcript.header ≡ Some judge.header
  pub judged : HasJudged judge transcript.entries
  pub entry : IsKept transcript.entries judge.wrong kept.entry
  pub words : kept.words ≡ length transcript.words
  pub noted : HasNoted kept.refused transcript.entries

-- ---- the input

-- the input holds a transcript, in which this was found
abbrev pub HoldsFound : Bytes → Bytes → Found → Type 0
HoldsFound old new found = (transcript : TranscriptValue) × Holds old new transcript × IsFound transcript found

-- what was found in the transcript that the input holds; or why it holds none
abbrev pub Ends : Bytes → Bytes → Result Found Unread → Type 0
Ends old new (Ok found) = HoldsFound old new found
Ends old new (Err unread) = Fails old new (line_of unread)

-- the same with the header
abbrev pub EndsWith : Bytes → Bytes → Result Judged Unread → Type 0
EndsWith old new (Ok judged) = HoldsFound old new judged.found
EndsWith old new (Err unread) = Fails old new (line_of unread)
