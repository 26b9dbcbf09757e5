use Rattle.std.proofs.Common.{ℕ, ◌++◌, ◌∷◌, [], ◌<◌, ◌≤◌, List, length, get_or}
use Rattle.irp_explore.specs.Paths.{changes_of}
use Rattle.irp_explore.proofs.path.longer_paths.Given as goal

abbrev pub invariant-loop-place : goal.invariant-loop-place
invariant-loop-place l = record {
  there : l.best < length l.paths;
  fewest : (k : ℕ) (d : List ℕ) → k < l.place → k < length l.paths
      → changes_of (get_or l.paths l.best d ++ l.seat ∷ []) ≤ changes_of (get_or l.paths k d ++ l.seat ∷ []);
}
