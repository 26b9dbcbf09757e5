use Rattle.std.proofs.Common.{◌≡◌, map, take}
use Rattle.irp_orders.specs.Alike.{use_named}
use Rattle.irp_orders.proofs.alike.uses_in.Given as goal

abbrev pub invariant-loop-answer : goal.invariant-loop-answer
invariant-loop-answer l = l.uses.items ≡ map use_named (take l.answer-index l.answers)
