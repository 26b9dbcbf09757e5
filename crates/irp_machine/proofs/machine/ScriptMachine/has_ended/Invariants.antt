use Rattle.std.proofs.Common.{◌≡◌}
use Rattle.irp_machine.specs.Machine.{has_ended_below}
use Rattle.irp_machine.proofs.machine.ScriptMachine.has_ended.Given as goal

abbrev pub invariant-loop-seat : goal.invariant-loop-seat
invariant-loop-seat l = l.ended ≡ has_ended_below l.self l.standing l.seat
