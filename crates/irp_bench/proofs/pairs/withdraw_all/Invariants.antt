use Rattle.std.proofs.Common.{All}
use Rattle.std.specs.List.{AllWithin}
use Rattle.irp_slots.specs.Pairing.{IsOwnerOf}
use Rattle.irp_bench.specs.Bench.{TookBack}
use Rattle.irp_bench.proofs.pairs.withdraw_all.Given as goal

-- all are owners of these slots, and those so far have taken their uses back
abbrev pub invariant-loop-owner : goal.invariant-loop-owner
invariant-loop-owner l = All (IsOwnerOf l.slots) l.owners × AllWithin TookBack l.owners 0 l.owner-index
