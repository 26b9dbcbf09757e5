use Rattle.std.proofs.Common.{◌≡◌, map, None}
use Rattle.std.specs.List.{range_with_len}
use Rattle.irp_routines.specs.Tables.{refusal_at, first_reason}
use Rattle.irp_routines.proofs.drivers.pairs_refusal.Given as goal

-- no pair so far is refused
abbrev pub invariant-loop-place : goal.invariant-loop-place
invariant-loop-place l = first_reason (map (refusal_at l.dispatches l.pairs) (range_with_len 0 l.place)) ≡ None
