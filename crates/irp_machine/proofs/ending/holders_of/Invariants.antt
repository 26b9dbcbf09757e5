use Rattle.std.proofs.Common.{◌≡◌}
use Rattle.irp_machine.specs.Endings.{holders_below}
use Rattle.irp_machine.proofs.ending.holders_of.Given as goal

abbrev pub invariant-loop-seat : goal.invariant-loop-seat
invariant-loop-seat l = l.holders.items ≡ holders_below l.seats l.lock l.seat
