use Rattle.std.proofs.Common.{◌≡◌, map, take}
use Rattle.irp_machine.specs.Endings.{replies_of}
use Rattle.irp_machine.proofs.ending.replies_of.Given as goal

abbrev pub invariant-loop-seat : goal.invariant-loop-seat
invariant-loop-seat l = l.replies.items ≡ map replies_of (take l.seat-index l.seats)
