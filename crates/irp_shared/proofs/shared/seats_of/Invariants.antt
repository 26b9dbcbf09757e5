use Rattle.std.proofs.Common.{◌≡◌, ◌+◌, ◌≤◌}
use Rattle.std.specs.Prelude.{vec_capacity}
use Rattle.irp_shared.specs.Opening.{AreNew}
use Rattle.irp_shared.proofs.shared.seats_of.Given as goal

abbrev pub invariant-loop-number : goal.invariant-loop-number
invariant-loop-number g l = (l.share.parts + l.number ≡ l.count) × (l.share.amount ≡ 0) × (l.count ≤ vec_capacity l.seats) × AreNew l.number l.seats.items
