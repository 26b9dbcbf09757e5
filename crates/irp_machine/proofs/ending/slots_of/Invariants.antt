use Rattle.std.proofs.Common.{◌≡◌, map, take}
use Rattle.irp_machine.specs.Endings.{slot_end}
use Rattle.irp_machine.proofs.ending.slots_of.Given as goal

abbrev pub invariant-loop-slot : goal.invariant-loop-slot
invariant-loop-slot l = l.ends.items ≡ map slot_end (take l.slot-index l.slots)
