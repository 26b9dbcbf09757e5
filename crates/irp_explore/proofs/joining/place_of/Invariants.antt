use Rattle.std.proofs.Common.{◌≢◌, ℕ, ◌<◌, ◌≤◌, length, get_or}
use Rattle.irp_explore.specs.declared.node.Node.{Node}
use Rattle.irp_explore.proofs.joining.place_of.Given as goal

abbrev pub invariant-loop-end : goal.invariant-loop-end
invariant-loop-end g l = record {
  within : l.end ≤ length l.joined;
  apart : (k : ℕ) (d : Node g.row.M-State.Denot) → l.end ≤ k → k < length l.joined → (get_or l.joined k d).state ≢ l.node.state;
}

abbrev pub decreases-loop-end : goal.decreases-loop-end
decreases-loop-end g l = l.end
