use Rattle.std.proofs.Common.{◌++◌, List, drop}
use Rattle.irp_plain.specs.declared.answered.Told.{Told}
use Rattle.irp_machine.specs.Answering.{IsToldAlong}
use Rattle.irp_machine.proofs.Stuck.{Stops}
use Rattle.irp_machine.proofs.answering.told_along.Given as goal

-- what the rest of the seats is told stands behind what was told so far; and where the rest is stuck, all of them are
abbrev pub invariant-loop-seat : goal.invariant-loop-seat
invariant-loop-seat l = record {
  rest :
      (rest : List Told) → IsToldAlong l.machine l.standing (drop l.seat-index l.path) rest
      → IsToldAlong l.machine l.fn.start l.path (l.told.items ++ rest);
  stuck : Stops l.machine l.standing (drop l.seat-index l.path) → Stops l.machine l.fn.start l.path;
}
