use Rattle.std.proofs.Common.{arith, ◌<◌, length, ap, ◌∙◌}
use Rattle.irp_slots.specs.Core.{flag, asking_of}
use Rattle.irp_slots.proofs.Steps.{take_out_allowed}
use Rattle.irp_slots.proofs.table.Slots.take_out.Goals as goal

pub swap-found-requires : goal.swap-found-requires
swap-found-requires c =
    let t = c.args.self.now.table.shared in
    let seat = c.canceller.inside.seat in
    let slot = c.args.slot in
    let a = asking_of seat.me.0 in
    let here = ap (λ p. p.table) c.canceller.view_is ∙ c.requires.of in
    let asked = ap (λ p. flag p.asking.flagged slot) c.canceller.view_is ∙ c.requires.flagged in
    let counted = c.args.self.now.counted in
    let few = c.args.self.now.few in
    let range : slot < t.key.slots = c.requires.slot in
    let long = c.canceller.invariant.flags.1 in
    let known : slot < length a.ended = omega arith in
    (here, omega arith, take_out_allowed t.key t.table_id.slots seat.id slot a seat.me c.canceller.invariant.asks range known asked)
