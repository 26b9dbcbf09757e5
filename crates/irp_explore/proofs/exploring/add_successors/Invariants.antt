use Rattle.std.proofs.Common.{◌+◌, ◌<◌, ◌++◌, ◌∷◌, [], ℕ, Some, List, All}
use Rattle.irp_explore.specs.Counted.{AddsSteps}
use Rattle.irp_explore.specs.Nodes.{IsMatched, IsReached, AddsSuccessors}
use Rattle.irp_explore.specs.Paths.{HasAsGood}
use Rattle.irp_explore.proofs.exploring.add_successors.Given as goal

abbrev pub invariant-loop-seat : goal.invariant-loop-seat
invariant-loop-seat g l =
    let moves = g.M.Machine.moves l.machine in
    let at = λ (start : g.row.M-State.Denot). IsReached moves (g.M.Machine.seats l.machine) (g.M.Machine.mark l.machine) start in
    record {
      successors : AddsSuccessors moves l.seat l.node l.fn.nodes.items l.nodes.items;
      steps : AddsSteps moves l.seat l.node l.fn.nodes.items l.nodes.items;
      reached : (start : g.row.M-State.Denot) (steps : ℕ) → at start (Some steps) l.node
          → All (at start (Some (steps + 1))) l.fn.nodes.items → All (at start (Some (steps + 1))) l.nodes.items;
      kept : (state : g.row.M-State.Denot) (path : List ℕ) → IsMatched l.fn.nodes.items state path → IsMatched l.nodes.items state path;
      matched : (path : List ℕ) (seat : ℕ) (after : g.row.M-State.Denot) → HasAsGood l.node.fewest.items path → seat < l.seat
          → moves l.node.state seat (Some after) → IsMatched l.nodes.items after (path ++ seat ∷ []);
    }
