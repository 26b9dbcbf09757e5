-- What checking a transcript tells.
use Rattle.std.specs.Prelude.{ℕ, ◌≡◌, ◌⊎◌, List, ◌∷◌, [], ◌++◌, codes, Result, Ok, Err}
use Rattle.std.specs.Fmt.{decimal}
use Rattle.irp_transcript.specs.Transcripts.{TranscriptValue, no_lines}
use Rattle.irp_transcript_reader.specs.Reading.{ReadsFrom, cut}
use Rattle.irp_judge.specs.Checked.{IsVerdictOn}
use Rattle.irp_judge.specs.declared.verdict.Verdict.{Verdict}
use Rattle.irp_judge.specs.declared.verdict.Verdict.TheVariants as verdict
use Rattle.irp_feed.specs.Input.{IsInput, IsRefused}
use Rattle.irp_streams.specs.Streams.{Bytes, IsQuiet, Output, Streams}
use Rattle.irpx.specs.Ending.{IsReadingFault}
use Rattle.irpx.specs.Writing.{BreaksOff, Written}
use Rattle.irpx.specs.declared.not_done.NotDone.{NotDone}
use Rattle.irpx.specs.declared.not_done.NotDone.TheVariants.{NoMemory, Output as Failed, RefusedLine}
use Rattle.irpx.specs.declared.not_done.Phase.TheVariants.{Writing}

-- the line that tells a verdict
abbrev pub verdict_line : Verdict → List ℕ
verdict_line (verdict.Legal entries) = codes "legal " ++ (decimal entries ++ 10 ∷ [])
verdict_line (verdict.Illegal at) = codes "illegal " ++ (decimal at ++ 10 ∷ [])

-- the text is a transcript's, and this is the verdict on it
pub record Judges (text : List ℕ) (verdict : Verdict) : Type 0 where
  pub transcript : TranscriptValue
  pub read : ReadsFrom no_lines 0 (Ok transcript) (cut text)
  pub judged : IsVerdictOn transcript verdict

-- the input holds a transcript, and this is the verdict on it
abbrev pub HasVerdict : Bytes → Bytes → Verdict → Type 0
HasVerdict old new verdict = (text : List ℕ) × IsInput old new text × Judges text verdict

-- why the input has no verdict: it isn't had; or the first line that is refused of the text that it holds
abbrev pub NotRead : Bytes → Bytes → NotDone → Type 0
NotRead old new fault =
    IsReadingFault fault
    ⊎ ((line : ℕ) × (text : List ℕ) × (fault ≡ RefusedLine line) × IsInput old new text × IsRefused text line)

-- what goes out and the count of failures where a verdict is written: its line
abbrev pub Told : Verdict → Output → Output → Type 0
Told verdict before after = Written (verdict_line verdict) before after

-- the same where it isn't: a beginning of its line where the output failed; nothing where there was no memory for it
abbrev pub Untold : Verdict → Output → Output → NotDone → Type 0
Untold verdict before after Failed = BreaksOff (verdict_line verdict) before after Failed
Untold verdict before after (NoMemory Writing) = IsQuiet before after
Untold verdict before after other = ⊥

-- what `check` did: the input holds a transcript, whose verdict was written. Where there is no verdict nothing went
-- out. Else the verdict wasn't written
abbrev pub Checks : Streams → Streams → Result Verdict NotDone → Type 0
Checks before after (Ok verdict) =
    HasVerdict before.left after.left verdict × Told verdict before.output after.output
Checks before after (Err fault) =
    (NotRead before.left after.left fault × IsQuiet before.output after.output)
    ⊎ ((verdict : Verdict) × HasVerdict before.left after.left verdict
    × Untold verdict before.output after.output fault)
