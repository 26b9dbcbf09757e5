use Rattle.std.proofs.Common.{ℕ, ◌<◌, ◌≤◌, List, length, get_or}
use Rattle.irp_explore.specs.Paths.{changes_of}
use Rattle.irp_explore.proofs.path.fewest_changes.Given as goal

abbrev pub invariant-loop-place : goal.invariant-loop-place
invariant-loop-place l = record {
  there : l.best < length l.paths.items;
  fewest : (k : ℕ) (d : List ℕ) → k < l.place → k < length l.paths.items
      → changes_of (get_or l.paths.items l.best d) ≤ changes_of (get_or l.paths.items k d);
}
