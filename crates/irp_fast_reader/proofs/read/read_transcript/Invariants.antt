-- What the rest gives is what the whole text gives.
use Rattle.std.proofs.Common.{◌≤◌, ◌+◌, length, Result}
use Rattle.irp_transcript.specs.Transcripts.{TranscriptValue, IsTranscript, no_lines}
use Rattle.irp_transcript_reader.specs.Reading.{ReadsFrom, cut, so_far}
use Rattle.irp_transcript_reader.specs.declared.read_fault.ReadFault.{ReadFault}
use Rattle.irp_fast_reader.proofs.read.read_transcript.Given as goal

abbrev pub invariant-loop-rest : goal.invariant-loop-rest
invariant-loop-rest l = record {
  count : l.lines + length l.rest ≤ length l.fn.bytes;
  one : IsTranscript (so_far l.reading);
  leads : (answer : Result TranscriptValue ReadFault) → ReadsFrom (so_far l.reading) l.lines answer (cut l.rest) → ReadsFrom no_lines 0 answer (cut l.fn.bytes);
}

abbrev pub decreases-loop-rest : goal.decreases-loop-rest
decreases-loop-rest l = length l.rest
