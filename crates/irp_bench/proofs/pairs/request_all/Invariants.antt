use Rattle.std.proofs.Common.{All}
use Rattle.irp_slots.specs.Pairing.{IsOwnerOf, IsCancellerOf}
use Rattle.irp_bench.specs.Bench.{TookMore}
use Rattle.irp_bench.proofs.pairs.request_all.Given as goal

-- all are owners of these slots, and the canceller has taken a use from each so far
abbrev pub invariant-loop-owner : goal.invariant-loop-owner
invariant-loop-owner l =
    All (IsOwnerOf l.slots) l.owners × IsCancellerOf l.slots l.canceller
    × TookMore l.owner-index l.initial.canceller l.canceller
