-- The majors before this place rise.
use Rattle.std.proofs.Common.{ℕ, ◌<◌, ◌+◌}
use Rattle.std.specs.Prelude.{slice_index}
use Rattle.irp_transcript.specs.Headers.{majors}
use Rattle.irp_transcript.proofs.header.is_rising.Given as goal

abbrev pub invariant-loop-place : goal.invariant-loop-place
invariant-loop-place l =
    (k : ℕ) → k + 1 < l.place → slice_index (majors l.pairs) k < slice_index (majors l.pairs) (k + 1)
