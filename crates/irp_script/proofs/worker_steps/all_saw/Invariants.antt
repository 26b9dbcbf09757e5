-- the seats so far have caught up, and the others are as they were
use Rattle.std.proofs.Common.{◌≡◌, ◌<◌, ◌≤◌, ℕ, get_or, length}
use Rattle.irp_script.specs.Seats.{seat_at_work}
use Rattle.irp_script.specs.Working.{caught_up}
use Rattle.irp_script.proofs.worker_steps.all_saw.Given as goal

abbrev pub invariant-loop-own : goal.invariant-loop-own
invariant-loop-own g l = record {
  many : length l.seats ≡ length l.fn.seats;
  saw : (k : ℕ) (one : _) → k < l.own-index → seat_at_work (get_or l.seats k one) ≡ caught_up l.length (seat_at_work (get_or l.fn.seats k one));
  rest : (k : ℕ) (one : _) → l.own-index ≤ k → get_or l.seats k one ≡ get_or l.fn.seats k one;
}
