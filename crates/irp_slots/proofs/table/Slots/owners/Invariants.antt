use Rattle.std.proofs.Common.{◌≡◌, ◌-◌, length}
use Rattle.irp_slots.specs.declared.views.View.TheVariants.{First}
use Rattle.irp_slots.specs.Core.{span, canceller_count}
use Rattle.irp_slots.specs.Opening.{AreFreshOwners}
use Rattle.irp_slots.proofs.table.Slots.owners.Given as goal

abbrev pub invariant-loop-slot : goal.invariant-loop-slot
invariant-loop-slot l =
    (l.first.table_id ≡ l.fn.first.table_id) × (l.first.me.0 ≡ First (span l.slot (l.count - l.slot)) (canceller_count l.fn.first.me.0))
    × (length l.made.items ≡ l.slot) × AreFreshOwners l.fn.self.table.shared.table_id l.slot l.made.items
