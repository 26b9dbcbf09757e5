-- Those so far are within the counts.
use Rattle.std.proofs.Common.{take}
use Rattle.std.specs.List.{All}
use Rattle.irp_types.specs.Rules.{IsWithin}
use Rattle.irp_transcript.proofs.header.are_within.Given as goal

abbrev pub invariant-loop-one : goal.invariant-loop-one
invariant-loop-one l = All (λ one. IsWithin one l.counts) (take l.one-index l.known)
