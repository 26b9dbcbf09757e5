use Rattle.std.proofs.Common.{◌≡◌, ℕ, ◌+◌, ◌⊎◌, ◌++◌, Option, List, All, Contains, vec_len}
use Rattle.std.specs.List.Sorted.{IsNonDecreasingBy}
use Rattle.irp_explore.specs.declared.node.Node.{Node}
use Rattle.irp_explore.specs.Counted.{AreCounted}
use Rattle.irp_explore.specs.Nodes.{weigh, states_of, IsReached, AreApart, AreFalling, IsFloor, IsMatched}
use Rattle.irp_explore.proofs.joining.join_equal.Given as goal

abbrev pub invariant-loop-node : goal.invariant-loop-node
invariant-loop-node g l =
    let moves = g.M.Machine.moves l.machine in
    let seats = g.M.Machine.seats l.machine in
    let mark = g.M.Machine.mark l.machine in
    record {
      weight : (number : g.row.M-State.Denot → ℕ) → weigh number l.joined.items + weigh number l.nodes.items ≡ weigh number l.fn.nodes.items;
      reached : (start : g.row.M-State.Denot) (steps : Option ℕ) → All (IsReached moves seats mark start steps) l.fn.nodes.items
          → All (IsReached moves seats mark start steps) l.nodes.items × All (IsReached moves seats mark start steps) l.joined.items;
      kept : (state : g.row.M-State.Denot) → Contains (states_of l.fn.nodes.items) state → Contains (states_of l.nodes.items) state ⊎ Contains (states_of l.joined.items) state;
      matched : (state : g.row.M-State.Denot) (path : List ℕ) → IsMatched l.fn.nodes.items state path → IsMatched l.nodes.items state path ⊎ IsMatched l.joined.items state path;
      rising : IsNonDecreasingBy (λ (node : Node g.row.M-State.Denot). node.mark) l.nodes.items;
      floor : All (λ (node : Node g.row.M-State.Denot). IsFloor node.mark l.joined.items) l.nodes.items;
      falling : AreFalling l.joined.items;
      apart : (start : g.row.M-State.Denot) (steps : Option ℕ) → All (IsReached moves seats mark start steps) l.fn.nodes.items → AreApart l.joined.items;
      counted : (start : g.row.M-State.Denot) (others : List (Node g.row.M-State.Denot)) → AreCounted moves seats start (l.fn.nodes.items ++ others)
          → AreCounted moves seats start (l.nodes.items ++ (l.joined.items ++ others));
    }

abbrev pub decreases-loop-node : goal.decreases-loop-node
decreases-loop-node g l = vec_len l.nodes
