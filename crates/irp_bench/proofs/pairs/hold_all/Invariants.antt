use Rattle.std.proofs.Common.{◌≡◌, []}
use Rattle.irp_bench.proofs.pairs.hold_all.Given as goal

abbrev pub invariant-loop-tag : goal.invariant-loop-tag
invariant-loop-tag l = (l.seat.table ≡ l.initial.seat.table) × (l.seat.number ≡ l.initial.seat.number) × (l.seat.held ≡ [])
