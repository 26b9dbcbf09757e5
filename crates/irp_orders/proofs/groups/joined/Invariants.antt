use Rattle.std.proofs.Common.{◌≡◌, ◌++◌, List, reverse, vec_len}
use Rattle.irp_orders.specs.Rows.{AreGrouped}
use Rattle.irp_orders.specs.declared.found.Found.{Found}
use Rattle.irp_orders.proofs.groups.joined.Given as goal

-- what was taken, from the front on, is in groups
abbrev pub invariant-loop-found : goal.invariant-loop-found
invariant-loop-found l =
    (done : List Found) × (l.fn.founds.items ≡ done ++ reverse l.founds.items) × AreGrouped done l.groups.items

abbrev pub decreases-loop-found : goal.decreases-loop-found
decreases-loop-found l = vec_len l.founds
