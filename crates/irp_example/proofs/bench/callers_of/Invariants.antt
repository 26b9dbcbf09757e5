use Rattle.std.proofs.Common.{All, vec_len}
use Rattle.irp_remove.specs.Pairing.{IsSeatOf}
use Rattle.irp_example.proofs.bench.callers_of.Given as goal

abbrev pub invariant-loop-seat : goal.invariant-loop-seat
invariant-loop-seat g l = All (IsSeatOf l.locks) l.removes.items

abbrev pub decreases-loop-seat : goal.decreases-loop-seat
decreases-loop-seat g l = vec_len l.seats
