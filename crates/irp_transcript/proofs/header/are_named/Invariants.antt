-- The dispatches so far are there.
use Rattle.std.proofs.Common.{◌<◌, take}
use Rattle.std.specs.List.{All}
use Rattle.irp_types.specs.State.{Entrance}
use Rattle.irp_transcript.proofs.header.are_named.Given as goal

abbrev pub invariant-loop-pair : goal.invariant-loop-pair
invariant-loop-pair l = All (λ (entrance : Entrance). entrance.1.0 < l.dispatches) (take l.pair-index l.pairs)
