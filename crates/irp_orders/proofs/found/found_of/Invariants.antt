use Rattle.std.proofs.Common.{◌≡◌, ◌++◌, All, reverse, vec_len}
use Rattle.irp_orders.specs.Founds.{outcomes_of}
use Rattle.irp_orders.specs.Rows.{IsAnswered, IsOwn}
use Rattle.irp_orders.proofs.found.found_of.Given as goal

-- what was taken, from the end on, was found
abbrev pub invariant-loop-outcome : goal.invariant-loop-outcome
invariant-loop-outcome l = record {
  outcomes : l.fn.outcomes.items ≡ l.outcomes.items ++ outcomes_of (reverse l.founds.items);
  own : All IsOwn l.founds.items;
  answered : All (IsAnswered l.steps) l.founds.items;
}

abbrev pub decreases-loop-outcome : goal.decreases-loop-outcome
decreases-loop-outcome l = vec_len l.outcomes
