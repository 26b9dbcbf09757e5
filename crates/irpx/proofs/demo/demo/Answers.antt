-- What went out is the text of the transcript that was made, or a beginning of it.
use Rattle.std.proofs.Common.{Ok, Err, OnOk, Result, inl, inr, refl}
use Rattle.std.specs.Prelude.{IfErr}
use Rattle.irp_transcript.specs.Transcripts.{TranscriptValue}
use Rattle.irpx.specs.Demo.{AfterDemo, IsDemoTranscript}
use Rattle.irp_streams.specs.Streams.{Output}
use Rattle.irpx.specs.Writing.{Prints, StopsShort}
use Rattle.irpx.specs.declared.not_done.NotDone.{NotDone}
use Rattle.irpx.proofs.Pieces.{keeps_itself}
use Rattle.irpx.proofs.demo.demo.Goals as goal

written_demo : {T : Type 0} (result : Result T NotDone) (transcript : TranscriptValue) (before after : Output) → IsDemoTranscript transcript
    → OnOk result (Prints transcript before after) → IfErr result (StopsShort transcript before after)
    → AfterDemo before after result
written_demo (Ok done) transcript before after is written broke = (transcript, is, written)
written_demo (Err fault) transcript before after is written broke = inr (transcript, is, broke)

pub returns-in_default : goal.returns-in_default
returns-in_default g c = inl (refl, (keeps_itself _, refl))

pub returns-in_default-transcript : goal.returns-in_default-transcript
returns-in_default-transcript g c = inl (refl, (keeps_itself _, refl))

pub returns : goal.returns
returns g c = written_demo c.write.result c.in-Some.transcript _ _ c.in-Some.ensures c.write.ensures.ok c.write.ensures.err
