-- What went out of a text, and what the output's count of failures is then.
use Rattle.std.specs.Prelude.{ℕ, ◌≡◌, List}
use Rattle.std.specs.Io.KnownBytes.{Appends}
use Rattle.irp_transcript.specs.Transcripts.{TranscriptValue}
use Rattle.irp_transcript_writer.specs.Lines.{lines, text_of}
use Rattle.irp_streams.specs.Out.{risen}
use Rattle.irp_fast_reader.specs.Fits.{Fits}
use Rattle.irp_fast_reader.specs.Fitting.{Begins, BeginsFitting, IsReadBack, StopsAt}
use Rattle.irp_streams.specs.Streams.{Output}
use Rattle.irpx.specs.declared.not_done.NotDone.{NotDone}
use Rattle.irpx.specs.declared.not_done.NotDone.TheVariants as fault
use Rattle.irpx.specs.declared.not_done.Phase.TheVariants.{Writing}

-- all of the text went out, and nothing failed
abbrev pub Written : List ℕ → Output → Output → Type 0
Written text before after = Appends before.gone after.gone text × (after.failures ≡ before.failures)

-- this fault came while something was written: the output's, and its count of failures rose, or want of memory
abbrev pub IsWritingFault : Output → Output → NotDone → Type 0
IsWritingFault before after fault.Output = after.failures ≡ risen before.failures
IsWritingFault before after (fault.NoMemory Writing) = after.failures ≡ before.failures
IsWritingFault before after other = ⊥

-- a beginning of the text went out, before this fault
abbrev pub BreaksOff : List ℕ → Output → Output → NotDone → Type 0
BreaksOff text before after told = Begins text before.gone after.gone × IsWritingFault before after told

-- all of the text of a transcript that fits went out, and nothing failed; this text is read back as the transcript
pub record Prints (transcript : TranscriptValue) (before after : Output) : Type 0 where
  pub fits : Fits transcript
  pub back : IsReadBack transcript
  pub written : Written (text_of (lines transcript)) before after

-- a beginning of the transcript's text went out: before this part, which is the first that doesn't fit, all lines; else
-- it broke off within lines that fit
abbrev pub StopsShort : TranscriptValue → Output → Output → NotDone → Type 0
StopsShort transcript before after (fault.Unfit unfit) =
    StopsAt transcript before.gone after.gone unfit × (after.failures ≡ before.failures)
StopsShort transcript before after told =
    BeginsFitting transcript before.gone after.gone × IsWritingFault before after told
