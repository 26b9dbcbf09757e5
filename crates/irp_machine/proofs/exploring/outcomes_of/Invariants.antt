use Rattle.std.proofs.Common.{◌≡◌, ◌++◌, List, vec_len, reverse}
use Rattle.irp_explore.specs.declared.node.Node.{Node}
use Rattle.irp_machine.specs.declared.place.Place.{Place}
use Rattle.irp_machine.specs.Orders.{AllTell}
use Rattle.irp_machine.proofs.exploring.outcomes_of.Given as goal

-- what was taken, from the end on, is told
abbrev pub invariant-loop-node : goal.invariant-loop-node
invariant-loop-node l =
    (taken : List (Node Place)) × (l.fn.found.items ≡ l.found.items ++ taken)
    × AllTell taken (reverse l.outcomes.items)

abbrev pub decreases-loop-node : goal.decreases-loop-node
decreases-loop-node l = vec_len l.found
