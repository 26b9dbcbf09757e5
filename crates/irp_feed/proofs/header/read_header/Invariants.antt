-- No line was read of what was taken so far.
use Rattle.std.proofs.Common.{◌≡◌, ◌≤◌, ℕ, List, length}
use Rattle.irp_transcript.specs.Transcripts.{no_lines}
use Rattle.irp_fast_reader.specs.Fed.{HasRead}
use Rattle.irp_feed.specs.Input.{most_bytes}
use Rattle.irp_feed.specs.Feeding.{IsSoFar}
use Rattle.irp_feed.proofs.header.read_header.Given as goal

abbrev pub invariant-loop-to : goal.invariant-loop-to
invariant-loop-to g l = record {
  few : l.left ≤ most_bytes;
  room : length l.buffer ≡ length l.initial.buffer;
  text : List ℕ;
  read : HasRead l.reader text no_lines;
  so_far : IsSoFar (g.R.Read.remaining l.initial.input) (g.R.Read.remaining l.input) l.left text;
}

abbrev pub decreases-loop-to : goal.decreases-loop-to
decreases-loop-to g l = l.left
