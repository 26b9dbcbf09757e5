use Rattle.std.proofs.Common.{◌≡◌, drop}
use Rattle.irp_types.specs.State.{no_routines}
use Rattle.irp_script_reader.specs.Sound.{with_all}
use Rattle.irp_machine.proofs.header.known_of.Given as goal

abbrev pub invariant-loop-routine : goal.invariant-loop-routine
invariant-loop-routine l = with_all l.known (drop l.routine-index l.routines) ≡ with_all no_routines l.routines
