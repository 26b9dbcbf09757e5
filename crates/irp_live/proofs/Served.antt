-- What came of a header.
use Rattle.std.proofs.Common.{◌≡◌, Result, Ok, Err, inr}
use Rattle.serde_json.specs.Data.{null}
use Rattle.irp_judge.specs.declared.verdict.Verdict.{Verdict}
use Rattle.irp_transcript.specs.Transcripts.{TranscriptValue}
use Rattle.irp_transcript_writer.specs.Json.{line_text}
use Rattle.irp_live.specs.Sessions.{SessionValue, Stands}
use Rattle.irp_streams.specs.Streams.{Streams}
use Rattle.irp_live.specs.Talking.{IsFinished, IsServed, Says}
use Rattle.irp_streams.specs.declared.reading.StreamFault.{StreamFault}

pub served : (told : TranscriptValue) (old mid new : Streams) (begun : SessionValue) (result : Result Verdict StreamFault) → begun.told ≡ told
    → Stands begun → Says (line_text null) old mid → IsFinished begun mid result new → IsServed told old result new
served told old mid new begun (Ok verdict) same stands answered finished =
    record { begun = begun; same = same; stands = stands; mid = mid; answered = answered; finished = finished }
served told old mid new begun (Err fault) same stands answered finished =
    inr (record { begun = begun; same = same; stands = stands; mid = mid; answered = answered; finished = finished })
