use Rattle.std.proofs.Common.{◌≡◌, ◌++◌, drop, length}
use Rattle.irp_machine.specs.Planning.{own_acts}
use Rattle.irp_machine.proofs.planning.acts_of_seat.Given as goal

-- the acts so far and those of the rest are all
abbrev pub invariant-loop-step : goal.invariant-loop-step
invariant-loop-step l = record {
  acts : l.acts.items ++ own_acts l.rivals (drop l.step-index l.steps) l.place (length l.acts.items) l.seat ≡ own_acts l.rivals l.steps 0 0 l.seat;
  place : l.place ≡ l.step-index;
}
