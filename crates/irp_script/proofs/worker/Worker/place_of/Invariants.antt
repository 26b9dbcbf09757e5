use Rattle.std.proofs.Common.{◌<◌, ℕ, get_or, ◌≢◌}
use Rattle.irp_script.proofs.worker.Worker.place_of.Given as goal

-- none of the seats so far has the number
abbrev pub invariant-loop-place : goal.invariant-loop-place
invariant-loop-place g l = (k : ℕ) (one : _) → k < l.place → (get_or l.self.seats.items k one).seat.number ≢ l.number
