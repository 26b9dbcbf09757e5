use Rattle.std.proofs.Common.{arith, ◌+◌, ◌-◌, ℕ, List, ap, ◌∙◌}
use Rattle.irp_slots.specs.declared.views.View.TheVariants.{First}
use Rattle.irp_slots.specs.Core.{span, canceller_count, one_owner_less}
use Rattle.irp_slots.proofs.Making.{owner_made, span_step}
use Rattle.irp_slots.proofs.table.Slots.owner.Goals as goal

pub split_seat-seat-requires : goal.split_seat-seat-requires
split_seat-seat-requires c =
    let counted = c.args.self.now.counted in
    let count = c.args.self.now.table.shared.key.slots in
    let left = canceller_count c.args.first.now.me.0 in (
      c.requires.table,
      omega arith,
      owner_made _ _ c.args.slot left (span (c.args.slot + 1) (count - (c.args.slot + 1))) _
          (c.requires.first ∙ ap (λ (os : List ℕ). First os left) (span_step c.args.slot count c.requires.slot)),
    )

pub returns-clause-end : goal.returns-clause-end
returns-clause-end c =
    let count = c.args.self.now.table.shared.key.slots in
    let left = canceller_count c.args.first.now.me.0 in
    ap (λ m. m.0) c.split_seat-seat.ensures.2
    ∙ ap one_owner_less (c.requires.first ∙ ap (λ (os : List ℕ). First os left) (span_step c.args.slot count c.requires.slot))
