use Rattle.std.proofs.Common.{◌≡◌, drop}
use Rattle.irp_machine.specs.Asking.{routine_at}
use Rattle.irp_machine.proofs.asker.routine_at.Given as goal

-- the routines so far are none of those, or come before
abbrev pub invariant-loop-routine : goal.invariant-loop-routine
invariant-loop-routine l = routine_at l.routines l.rule l.number ≡ routine_at (drop l.routine-index l.routines) l.rule l.left
