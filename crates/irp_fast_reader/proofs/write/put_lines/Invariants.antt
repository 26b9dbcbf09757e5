-- The lines so far fit and went out, and no put failed.
use Rattle.std.proofs.Common.{◌≡◌, map, take}
use Rattle.std.specs.List.{All}
use Rattle.std.specs.Io.KnownBytes.{Appends}
use Rattle.irp_transcript_writer.specs.Lines.{text_of}
use Rattle.irp_fast_reader.specs.Fits.{LineFits}
use Rattle.irp_fast_reader.proofs.write.put_lines.Given as goal

abbrev pub invariant-loop-place : goal.invariant-loop-place
invariant-loop-place g l = record {
  fits : All (LineFits (g.T.Fitting.told l.header) g.T.Written.json) (take l.place l.values);
  gone : Appends (g.O.Out.gone l.fn.out) (g.O.Out.gone l.out) (text_of (map g.T.Written.json (take l.place l.values)));
  calm : g.O.Out.failures l.out ≡ g.O.Out.failures l.fn.out;
}
