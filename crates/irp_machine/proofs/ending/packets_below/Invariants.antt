use Rattle.std.proofs.Common.{◌≡◌}
use Rattle.irp_manager.specs.ManagerStates.{state_of}
use Rattle.irp_manager.specs.Slots.{live_of}
use Rattle.irp_machine.specs.Endings.{packets_below}
use Rattle.irp_machine.proofs.ending.packets_below.Given as goal

abbrev pub invariant-loop-slot : goal.invariant-loop-slot
invariant-loop-slot l = l.packets.items ≡ packets_below (state_of live_of l.manager) l.slot
