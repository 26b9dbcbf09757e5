-- The members from here on, taken into what was read, give what all of them give.
use Rattle.std.proofs.Common.{◌≡◌, drop}
use Rattle.serde_json.specs.View.{items_view}
use Rattle.irp_script_reader.specs.Taking.{members_at}
use Rattle.irp_script_reader.proofs.taking.list_at.Given as goal

abbrev pub invariant-loop-index : goal.invariant-loop-index
invariant-loop-index g l = members_at g.L.Taking.takes l.section 0 l.fn.empty (items_view l.item-items)
    ≡ members_at g.L.Taking.takes l.section l.index l.list (items_view (drop l.index l.item-items))
