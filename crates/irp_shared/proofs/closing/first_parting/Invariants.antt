use Rattle.std.proofs.Common.{◌≡◌, ◌≤◌, take, length}
use Rattle.irp_types.specs.Histories.{own_entries}
use Rattle.irp_shared.proofs.closing.first_parting.Given as goal

abbrev pub invariant-loop-place : goal.invariant-loop-place
invariant-loop-place l = (l.index ≤ length l.entries) × (own_entries (take l.place l.history) l.seat ≡ take l.index l.entries)
