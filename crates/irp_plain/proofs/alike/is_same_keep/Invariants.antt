use Rattle.std.proofs.Common.{◌≡◌, ℕ, ◌<◌}
use Rattle.std.specs.FinMap as fin
use Rattle.irp_manager.specs.Slots.{live_of}
use Rattle.irp_plain.proofs.alike.is_same_keep.Given as goal

-- the slots so far have the same
abbrev pub invariant-loop-slot : goal.invariant-loop-slot
invariant-loop-slot l =
    (lower : ℕ) → lower < l.slot → fin.get (live_of l.one) lower ≡ fin.get (live_of l.other) lower
