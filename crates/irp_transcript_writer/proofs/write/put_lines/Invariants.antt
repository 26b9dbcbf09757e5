-- The lines so far went out, and no put failed.
use Rattle.std.proofs.Common.{◌≡◌, map, take}
use Rattle.irp_transcript_writer.specs.Lines.{text_of}
use Rattle.irp_transcript_writer.specs.Puts.{Sent}
use Rattle.irp_transcript_writer.proofs.write.put_lines.Given as goal

abbrev pub invariant-loop-value : goal.invariant-loop-value
invariant-loop-value g l = record {
  sent : Sent (text_of (map g.T.Written.json (take l.value-index l.values))) l.before (g.O.Out.gone l.fn.out) (g.O.Out.gone l.out) l.written;
  calm : g.O.Out.failures l.out ≡ g.O.Out.failures l.fn.out;
}
