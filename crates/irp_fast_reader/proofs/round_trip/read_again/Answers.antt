use Rattle.std.proofs.Common.{ℕ, List, subst}
use Rattle.irp_transcript.specs.Transcripts.{no_lines}
use Rattle.irp_transcript_reader.specs.Reading.{ReadsFrom, cut}
use Rattle.irp_fast_reader.proofs.round_trip.read_again.Goals as goal

pub returns-clause-own : goal.returns-clause-own
returns-clause-own c is fits =
    c.written_is_read.ensures.only c.args.transcript.now c.read_transcript.result c.is_one.ensures fits
    (subst (λ (text : List ℕ). ReadsFrom no_lines 0 c.read_transcript.result (cut text)) is c.read_transcript.ensures)
