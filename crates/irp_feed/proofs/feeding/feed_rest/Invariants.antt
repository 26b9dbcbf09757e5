-- What was taken so far was given, but for the block.
use Rattle.std.proofs.Common.{◌≡◌, ◌≤◌, ℕ, List, ◌++◌, length}
use Rattle.irp_transcript.specs.Transcripts.{TranscriptValue}
use Rattle.irp_feed.specs.Input.{Bytes, most_bytes}
use Rattle.irp_feed.specs.Feeding.{AreRead, IsSoFar, Starts, header_alone, piece_of}
use Rattle.irp_feed.proofs.feeding.feed_rest.Given as goal

abbrev pub invariant-loop-read : goal.invariant-loop-read
invariant-loop-read g l = record {
  few : l.left ≤ most_bytes;
  room : length l.buffer ≡ length l.initial.buffer;
  order : l.from ≤ l.to;
  within : l.to ≤ length l.buffer;
  so_far :
      (old : Bytes) (fixed : g.S.LineSink.Fixed)
      → Starts old (g.R.Read.remaining l.initial.input) l.start l.initial.reader l.initial.buffer
      → g.S.LineSink.has_taken l.initial.sink l.initial.output fixed (header_alone l.start.header) (header_alone l.start.header)
      → (text : List ℕ) × (transcript : TranscriptValue) × AreRead l.reader text transcript
      × g.S.LineSink.has_taken l.sink l.output fixed transcript transcript
      × IsSoFar old (g.R.Read.remaining l.input) l.left (text ++ piece_of l.buffer l.from l.to);
}

abbrev pub decreases-loop-read : goal.decreases-loop-read
decreases-loop-read g l = l.left
