use Rattle.std.proofs.Common.{arith, ◌+◌, ◌*◌, ◌<◌, ℕ, ap, ◌∙◌, subst}
use mathlib.Core.Option.{none}
use Rattle.atomic_table.specs.Table.{Allows, step}
use Rattle.irp_slots.specs.Core.{Kept, may_take_back, owning_of, takes_back}
use Rattle.irp_slots.proofs.Steps.{take_back_allowed}
use Rattle.irp_slots.proofs.table.Slots.take_back.Goals as goal

pub swap-found-requires : goal.swap-found-requires
swap-found-requires c =
    let t = c.args.self.now.table.shared in
    let seat = c.owner.inside.seat in
    let o = owning_of seat.me.0 in
    let here = ap (λ p. p.table) c.owner.view_is ∙ c.requires.of in
    let may = ap (λ p. may_take_back p.owning) c.owner.view_is ∙ c.requires.looked in
    let within = c.owner.invariant.inside.0 in
    let less = subst (λ z. 2 * c.owner.inside.slot + 1 < z.words) here within in
    let counted = c.args.self.now.counted in
    let slot_is = c.owner.invariant.slot_is in
    let range : o.slot < t.key.slots = omega arith in (
      here,
      less,
      subst (λ (k : ℕ). Allows (Kept t.key) t.table_id.slots seat.id seat.me (2 * k + 1) (λ _. 0) (takes_back (step t.table_id.slots (2 * k + 1) 0 0 none) seat.me)) slot_is
          (take_back_allowed t.key t.table_id.slots seat.id o seat.me c.owner.invariant.owns may range),
    )
