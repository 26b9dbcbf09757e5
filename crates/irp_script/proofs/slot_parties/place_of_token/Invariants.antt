use Rattle.std.proofs.Common.{◌<◌, ℕ, get_or}
use Rattle.irp_script.specs.AtSlots.{IsSpent}
use Rattle.irp_script.proofs.slot_parties.place_of_token.Given as goal

-- none of those so far is left
abbrev pub invariant-loop-place : goal.invariant-loop-place
invariant-loop-place l = (k : ℕ) (one : _) → k < l.place → IsSpent l.slot (get_or l.taken k one)
