use Rattle.std.proofs.Common.{◌≡◌, ℕ, ◌+◌, ◌-◌, ◌<◌, ◌≤◌, ◌++◌, ◌⊎◌, Some, None, List, All, Contains, length}
use Rattle.irp_explore.specs.Orders.{IsSharedOut, Leads, HasEnded}
use Rattle.irp_explore.specs.Counted.{AreCounted}
use Rattle.irp_explore.specs.Nodes.{weigh, states_of, IsMatched, IsReached, IsAhead}
use Rattle.irp_explore.proofs.exploring.explore.Given as goal

abbrev pub invariant-loop-left : goal.invariant-loop-left
invariant-loop-left g l =
    let moves = g.M.Machine.moves l.machine in
    let seats = g.M.Machine.seats l.machine in
    let mark = g.M.Machine.mark l.machine in
    record {
      within : l.left ≤ l.most_steps;
      orders : (number : g.row.M-State.Denot → ℕ) → IsSharedOut moves seats number
          → weigh number l.found.items + weigh number l.layer.items ≡ number l.fn.start;
      layer : All (IsReached moves seats mark l.fn.start (Some (l.most_steps - l.left))) l.layer.items;
      found : All (IsReached moves seats mark l.fn.start None) l.found.items;
      reach : (path : List ℕ) (last : g.row.M-State.Denot) → Leads moves seats l.fn.start path last
          → ((length path < l.most_steps - l.left) × (HasEnded moves seats last → Contains (states_of l.found.items) last))
          ⊎ IsAhead moves seats l.layer.items (length path - (l.most_steps - l.left)) last;
      matched : (path : List ℕ) (last : g.row.M-State.Denot) → Leads moves seats l.fn.start path last
          → length path ≡ l.most_steps - l.left → IsMatched l.layer.items last path;
      ended : (path : List ℕ) (last : g.row.M-State.Denot) → Leads moves seats l.fn.start path last
          → length path < l.most_steps - l.left → HasEnded moves seats last → IsMatched l.found.items last path;
      counted : AreCounted moves seats l.fn.start (l.found.items ++ l.layer.items);
    }

abbrev pub decreases-loop-left : goal.decreases-loop-left
decreases-loop-left g l = l.left
