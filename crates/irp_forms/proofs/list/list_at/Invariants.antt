use Rattle.std.proofs.Common.{◌≡◌, drop}
use Rattle.serde_json.specs.View.{items_view}
use Rattle.irp_forms.specs.Parts.{each}
use Rattle.irp_forms.proofs.Lists.{prepend}
use Rattle.irp_forms.proofs.list.list_at.Given as goal

abbrev pub invariant-loop-item : goal.invariant-loop-item
invariant-loop-item g l = each g.T.FromJson.at (items_view l.item-items) ≡ prepend l.list.items (each g.T.FromJson.at (items_view (drop l.item-index l.item-items)))
