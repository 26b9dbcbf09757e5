use Rattle.std.proofs.Common.{arith, ◌+◌, ◌*◌, ◌<◌, ℕ, ap, ◌∙◌, subst}
use mathlib.Core.Option.{none}
use Rattle.atomic_table.specs.Table.{Allows, step}
use Rattle.irp_slots.specs.Core.{Kept, owning_of, publishes}
use Rattle.irp_slots.proofs.Steps.{publish_allowed}
use Rattle.irp_slots.proofs.table.Slots.swap_in.Goals as goal

pub swap-requires : goal.swap-requires
swap-requires c =
    let t = c.args.self.now.table.shared in
    let seat = c.owner.inside.seat in
    let o = owning_of seat.me.0 in
    let here = ap (λ p. p.table) c.owner.view_is ∙ c.requires.of in
    let idle = ap (λ p. p.owning.stage) c.owner.view_is ∙ c.requires.idle in
    let within = c.owner.invariant.inside.0 in
    let less = subst (λ z. 2 * c.owner.inside.slot + 1 < z.words) here within in
    let counted = c.args.self.now.counted in
    let slot_is = c.owner.invariant.slot_is in
    let range : o.slot < t.key.slots = omega arith in (
      here,
      less,
      subst (λ (k : ℕ). Allows (Kept t.key) t.table_id.slots seat.id seat.me (2 * k + 1) (λ _. c.args.use_no) (publishes (step t.table_id.slots (2 * k + 1) c.args.use_no 0 none) seat.me)) slot_is
          (publish_allowed t.key t.table_id.slots seat.id c.args.use_no o seat.me c.owner.invariant.owns idle range),
    )
