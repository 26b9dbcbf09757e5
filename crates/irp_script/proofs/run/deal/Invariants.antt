use Rattle.std.proofs.Common.{◌≡◌, ◌<◌, All, vec_len, ℕ, ◌+◌, Bool, get_or}
use Rattle.std.specs.List.{count_by}
use Rattle.irp_script.specs.Workers.{IsReady, count_seats}
use Rattle.irp_script.specs.Seats.{IsAtLocks}
use Rattle.irp_script.proofs.run.deal.Given as goal

-- each worker has run nothing and has seats of its own, those left fit the locks, and those left and those dealt are all
abbrev pub invariant-loop-seat : goal.invariant-loop-seat
invariant-loop-seat g l = record {
  len : vec_len l.all ≡ l.workers;
  ready : (k : ℕ) (one : _) → k < l.workers → IsReady l.workers l.steps l.known k (get_or l.all.items k one);
  at_locks : (k : ℕ) (one : _) → k < l.workers → (get_or l.all.items k one).locks.now ≡ l.locks;
  fits : All (IsAtLocks l.locks) l.seats.items;
  seats : (test : _ → Bool) → count_by test l.seats.items + count_seats test l.all.items ≡ count_by test l.fn.seats.items;
}

abbrev pub decreases-loop-seat : goal.decreases-loop-seat
decreases-loop-seat g l = vec_len l.seats
