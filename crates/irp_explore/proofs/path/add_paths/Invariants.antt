use Rattle.std.proofs.Common.{ℕ, ◌⊎◌, List, All, Contains, vec_len}
use Rattle.irp_explore.specs.Paths.{HasAsGood}
use Rattle.irp_explore.proofs.path.add_paths.Given as goal

abbrev pub invariant-loop-path : goal.invariant-loop-path
invariant-loop-path l = record {
  kept : (other : List ℕ) → HasAsGood l.fn.paths.items other → HasAsGood l.paths.items other;
  held : (other : List ℕ) → HasAsGood l.fn.others.items other → HasAsGood l.others.items other ⊎ HasAsGood l.paths.items other;
  left : (one : List ℕ) → Contains l.others.items one → Contains l.fn.others.items one;
  only : All (λ one. Contains l.fn.paths.items one ⊎ Contains l.fn.others.items one) l.paths.items;
}

abbrev pub decreases-loop-path : goal.decreases-loop-path
decreases-loop-path l = vec_len l.others
