use Rattle.std.proofs.Common.{◌≡◌, replicate}
use Rattle.irp_plain.specs.Seats.{new_seat}
use Rattle.irp_machine.proofs.opening.new_seats.Given as goal

abbrev pub invariant-loop-seat : goal.invariant-loop-seat
invariant-loop-seat l = l.all.items ≡ replicate l._seat new_seat
