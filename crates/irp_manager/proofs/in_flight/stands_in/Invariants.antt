use Rattle.std.proofs.Common.{◌≡◌, ℕ, ◌≤◌, ◌<◌, false}
use Rattle.irp_types.specs.Refusals.{stands_at}
use Rattle.irp_manager.proofs.in_flight.stands_in.Given as goal

-- the device stands in none of the locations so far
abbrev pub invariant-loop-number : goal.invariant-loop-number
invariant-loop-number l = (lower : ℕ) → l.start ≤ lower → lower < l.number → stands_at l.packet l.device.0 lower ≡ false
