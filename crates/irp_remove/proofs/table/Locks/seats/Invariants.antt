use Rattle.std.proofs.Common.{◌≡◌, ◌-◌, ◌*◌, length}
use Rattle.irp_remove.specs.declared.views.View.TheVariants.{First}
use Rattle.irp_remove.specs.Opening.{AreFresh}
use Rattle.irp_remove.proofs.table.Locks.seats.Given as goal

abbrev pub invariant-loop-number : goal.invariant-loop-number
invariant-loop-number l =
    (l.first.table_id ≡ l.fn.first.table_id) × (l.first.me.0 ≡ First (l.count - l.number) ((l.count - l.number) * 64))
    × (length l.made.items ≡ l.number) × AreFresh l.self.table.shared.table_id l.number l.made.items
