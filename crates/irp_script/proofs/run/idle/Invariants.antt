use Rattle.std.proofs.Common.{◌≡◌, ◌<◌, ◌≤◌, vec_len, ℕ, Bool, get_or}
use Rattle.std.specs.Prelude.{vec_capacity}
use Rattle.irp_script.specs.Workers.{IsIdle, count_seats}
use Rattle.irp_script.proofs.run.idle.Given as goal

-- there is room for all, and each has run nothing and has no seat
abbrev pub invariant-loop-number : goal.invariant-loop-number
invariant-loop-number g l = record {
  len : vec_len l.all ≡ l.number;
  room : l.workers ≤ vec_capacity l.all;
  ready : (k : ℕ) (one : _) → k < l.number → IsIdle l.workers l.steps l.known l.locks k (get_or l.all.items k one);
  seats : (test : _ → Bool) → count_seats test l.all.items ≡ 0;
}
