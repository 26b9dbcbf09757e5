-- How the transcript in an input is judged, line after line.
use Rattle.std.specs.Prelude.{◌≡◌, Some, Result, Ok, Err}
use Rattle.irp_transcript.specs.Transcripts.{TranscriptValue}
use Rattle.irp_judge.specs.Judging.{HasJudged, JudgeValue}
use Rattle.irp_judge.specs.declared.verdict.Verdict.{Verdict}
use Rattle.irp_feed.specs.Input.{most_taken}
use Rattle.irp_feed.specs.declared.unfed.Unfed.{Unfed}
use Rattle.irp_feed.specs.declared.unfed.Unfed.TheVariants as unfed
use Rattle.irpx.specs.Checking.{HasVerdict, NotRead}
use Rattle.irp_streams.specs.Streams.{Bytes, TakesAtMost}
use Rattle.irpx.specs.declared.not_done.NotDone.{NotDone}
use Rattle.irpx.specs.declared.not_done.NotDone.TheVariants.{Input, RefusedLine, NoMemory}
use Rattle.irpx.specs.declared.not_done.Phase.TheVariants.{Reading}

-- the judge was fed the entries of this transcript, which has its header
pub record IsJudged (judge : JudgeValue) (transcript : TranscriptValue) : Type 0 where
  pub header : transcript.header ≡ Some judge.header
  pub judged : HasJudged judge transcript.entries

-- why a text that isn't read to its end has no verdict
abbrev pub refusal_of : Unfed → NotDone
refusal_of unfed.Input = Input
refusal_of (unfed.Refused line refused) = RefusedLine line
refusal_of unfed.NoMemory = NoMemory Reading
refusal_of unfed.NotTaken = NoMemory Reading

-- why there is no verdict on the input, of which not too much was taken
abbrev pub Fails : Bytes → Bytes → NotDone → Type 0
Fails old new fault = NotRead old new fault × TakesAtMost most_taken old new

-- the verdict on the input, or why there is none
abbrev pub Ends : Bytes → Bytes → Result Verdict NotDone → Type 0
Ends old new (Ok verdict) = HasVerdict old new verdict
Ends old new (Err fault) = Fails old new fault
