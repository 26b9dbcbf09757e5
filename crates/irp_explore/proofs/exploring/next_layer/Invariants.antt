use Rattle.std.proofs.Common.{◌≡◌, ℕ, ◌+◌, ◌++◌, ◌⊎◌, Some, None, List, All, Contains, vec_len}
use Rattle.irp_explore.specs.Orders.{IsSharedOut}
use Rattle.irp_explore.specs.Counted.{AreCounted}
use Rattle.irp_explore.specs.Nodes.{weigh, states_of, IsMatched, IsMatchedOn, IsReached, IsExpanded}
use Rattle.irp_explore.proofs.exploring.next_layer.Given as goal

abbrev pub invariant-loop-node : goal.invariant-loop-node
invariant-loop-node g l =
    let moves = g.M.Machine.moves l.machine in
    let seats = g.M.Machine.seats l.machine in
    let mark = g.M.Machine.mark l.machine in
    let at = λ (start : g.row.M-State.Denot). IsReached moves seats mark start in
    record {
      weight : (number : g.row.M-State.Denot → ℕ) → IsSharedOut moves seats number
          → weigh number l.found.items + weigh number l.next.items + weigh number l.layer.items
          ≡ weigh number l.fn.found.items + weigh number l.fn.layer.items;
      left : (start : g.row.M-State.Denot) (steps : ℕ) → All (at start (Some steps)) l.fn.layer.items
          → All (at start (Some steps)) l.layer.items;
      reached : (start : g.row.M-State.Denot) (steps : ℕ) → All (at start (Some steps)) l.fn.layer.items
          → All (at start (Some (steps + 1))) l.next.items;
      found : (start : g.row.M-State.Denot) (steps : ℕ) → All (at start (Some steps)) l.fn.layer.items
          → All (at start None) l.fn.found.items → All (at start None) l.found.items;
      done : (state : g.row.M-State.Denot) → Contains (states_of l.fn.layer.items) state
          → Contains (states_of l.layer.items) state ⊎ IsExpanded moves seats l.found.items l.next.items state;
      kept : (state : g.row.M-State.Denot) → Contains (states_of l.fn.found.items) state
          → Contains (states_of l.found.items) state;
      matched_on : (state : g.row.M-State.Denot) (path : List ℕ) → IsMatched l.fn.layer.items state path
          → IsMatched l.layer.items state path ⊎ IsMatchedOn moves seats l.found.items l.next.items state path;
      matched : (state : g.row.M-State.Denot) (path : List ℕ) → IsMatched l.fn.found.items state path → IsMatched l.found.items state path;
      counted : (start : g.row.M-State.Denot) → AreCounted moves seats start (l.fn.layer.items ++ l.fn.found.items)
          → AreCounted moves seats start (l.layer.items ++ (l.found.items ++ l.next.items));
    }

abbrev pub decreases-loop-node : goal.decreases-loop-node
decreases-loop-node g l = vec_len l.layer
