-- What was taken so far.
use Rattle.std.proofs.Common.{◌<◌, ◌≤◌, ℕ, List, ◌++◌, length}
use Rattle.irp_feed.specs.Input.{Bytes, most_bytes}
use Rattle.irp_feed.specs.Feeding.{IsSoFar}
use Rattle.irp_feed.proofs.input.drain.Given as goal

abbrev pub invariant-loop-count : goal.invariant-loop-count
invariant-loop-count g l = record {
  few : l.left ≤ most_bytes;
  room : 0 < length l.buffer;
  so_far :
      (old : Bytes) (text : List ℕ)
      → IsSoFar old (g.R.Read.remaining l.initial.input) l.fn.left text
      → (more : List ℕ) × IsSoFar old (g.R.Read.remaining l.input) l.left (text ++ more);
}

abbrev pub decreases-loop-count : goal.decreases-loop-count
decreases-loop-count g l = l.left
