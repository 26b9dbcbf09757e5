use Rattle.std.proofs.Common.{◌≡◌, ℕ, ◌+◌, ◌<◌}
use Rattle.irp_types.specs.Packet.{location_at}
use Rattle.irp_plain.proofs.alike.are_same_locations.Given as goal

-- the locations so far are equal
abbrev pub invariant-loop-below : goal.invariant-loop-below
invariant-loop-below l = (lower : ℕ) → lower < l.below → location_at l.one (lower + 1) ≡ location_at l.other (lower + 1)
