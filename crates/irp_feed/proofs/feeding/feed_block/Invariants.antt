-- What was read of the block was taken.
use Rattle.std.proofs.Common.{ℕ, ◌+◌, ◌≤◌, List, length}
use Rattle.irp_transcript.specs.Transcripts.{TranscriptValue}
use Rattle.irp_feed.specs.Input.{most_bytes}
use Rattle.irp_feed.specs.Feeding.{AreRead}
use Rattle.irp_feed.proofs.Within.{IsWithin}
use Rattle.irp_feed.proofs.feeding.feed_block.Given as goal

abbrev pub invariant-loop-rest : goal.invariant-loop-rest
invariant-loop-rest g l =
    (output : g.row.O.Denot) (fixed : g.S.LineSink.Fixed) (ended : TranscriptValue) (text : List ℕ)
    → AreRead l.initial.reader text ended → g.S.LineSink.has_taken l.initial.sink output fixed ended ended
    → length text + length l.block ≤ most_bytes
    → IsWithin l.reader (g.S.LineSink.has_taken l.sink output fixed ended) text l.block l.rest

abbrev pub decreases-loop-rest : goal.decreases-loop-rest
decreases-loop-rest g l = length l.rest
