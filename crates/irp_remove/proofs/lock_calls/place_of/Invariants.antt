use Rattle.std.proofs.Common.{◌<◌, ℕ, get_or, ◌≢◌}
use Rattle.irp_remove.specs.declared.reference.Reference.{Reference}
use Rattle.irp_remove.specs.Seats.{pair_of}
use Rattle.irp_remove.proofs.lock_calls.place_of.Given as goal

abbrev pub invariant-loop-place : goal.invariant-loop-place
invariant-loop-place l = (k : ℕ) (d : Reference) → k < l.place → pair_of (get_or l.held.items k d) ≢ (l.lock, l.tag)
