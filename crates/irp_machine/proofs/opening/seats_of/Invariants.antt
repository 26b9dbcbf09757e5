use Rattle.std.proofs.Common.{◌≡◌, take}
use Rattle.irp_machine.specs.Openings.{seats_of}
use Rattle.irp_machine.proofs.opening.seats_of.Given as goal

abbrev pub invariant-loop-step : goal.invariant-loop-step
invariant-loop-step l = l.seats.items ≡ seats_of (take l.step-index l.steps)
