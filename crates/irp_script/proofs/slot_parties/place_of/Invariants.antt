use Rattle.std.proofs.Common.{◌<◌, ℕ, get_or, ◌≢◌}
use Rattle.irp_script.proofs.slot_parties.place_of.Given as goal

-- none of the owners so far has the slot
abbrev pub invariant-loop-place : goal.invariant-loop-place
invariant-loop-place l = (k : ℕ) (one : _) → k < l.place → (get_or l.owners k one).owning.slot ≢ l.slot
