-- What isn't taken first is no header.
use Rattle.std.proofs.Common.{subst}
use Rattle.serde_json.specs.View.{view}
use Rattle.irp_transcript.specs.Transcripts.{TranscriptValue}
use Rattle.irp_transcript_reader.specs.Reading.{IsNext}
use Rattle.irp_live.proofs.talking.header_reading.Goals as goal

pub returns-in-Err-Form-clause-err : goal.returns-in-Err-Form-clause-err
returns-in-Err-Form-clause-err c =
    let none = rw c.in-Err-Form.field-0-is at c.in-Err-Form.ensures.takes in
    subst (λ (before : TranscriptValue). (told : TranscriptValue) → IsNext before (view c.args.value.now) told → ⊥) c.new-reading.ensures none
