-- The majors so far are major function codes.
use Rattle.std.proofs.Common.{◌≤◌, take}
use Rattle.std.specs.List.{All}
use Rattle.irp_types.specs.Limits.{last_major}
use Rattle.irp_types.specs.State.{Entrance}
use Rattle.irp_transcript.proofs.header.have_majors.Given as goal

abbrev pub invariant-loop-pair : goal.invariant-loop-pair
invariant-loop-pair l = All (λ (entrance : Entrance). entrance.0 ≤ last_major) (take l.pair-index l.pairs)
