use Rattle.std.proofs.Common.{◌≡◌, ℕ, ◌<◌, true, is_some}
use Rattle.std.specs.FinMap as fin
use Rattle.irp_manager.specs.Keeps.{mapped}
use Rattle.irp_manager.proofs.map_keep.MapKeep.vacant.Given as goal

-- the slots so far are live
abbrev pub invariant-loop-slot : goal.invariant-loop-slot
invariant-loop-slot l = (lower : ℕ) → lower < l.slot → is_some (fin.get (mapped l.self) lower) ≡ true
