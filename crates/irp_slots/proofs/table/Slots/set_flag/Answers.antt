use Rattle.std.proofs.Common.{arith, ◌≡◌, ◌*◌, ◌/◌, ◌<◌, ℕ, true, false, length, get_or-set_same, ap, ◌∙◌}
use Rattle.irp_slots.specs.declared.views.View.{View}
use Rattle.irp_slots.specs.declared.views.View.TheVariants.{Canceller}
use Rattle.irp_slots.specs.Core.{flag, asking_of, slot_flagged}
use Rattle.irp_slots.proofs.Steps.{flag_allowed}
use Rattle.irp_slots.proofs.table.Slots.set_flag.Goals as goal

pub fetch_or-requires : goal.fetch_or-requires
fetch_or-requires c =
    let t = c.args.self.now.table.shared in
    let seat = c.canceller.inside.seat in
    let slot = c.args.slot in
    let a = asking_of seat.me.0 in
    let here = ap (λ p. p.table) c.canceller.view_is ∙ c.requires.of in
    let counted = c.args.self.now.counted in
    let few = c.args.self.now.few in
    let range : slot < t.key.slots = c.requires.slot in
    let long = c.canceller.invariant.flags.0 in
    let known : slot < length a.flagged = omega arith in
    (here, omega arith, flag_allowed t.key t.table_id.slots seat.id slot a seat.me c.canceller.invariant.asks range known)

pub returns-clause-set : goal.returns-clause-set
returns-clause-set c =
    let slot = c.args.slot in
    let a = asking_of c.canceller.inside.seat.me.0 in
    let few = c.args.self.now.few in
    let range : slot < c.args.self.now.table.shared.key.slots = c.requires.slot in
    let long = c.canceller.invariant.flags.0 in
    let known : slot < length a.flagged = omega arith in
    let half : (2 * slot) / 2 ≡ slot = omega arith in
    let is = ap (λ m. m.0) c.fetch_or.ensures.2.0
    ∙ (ap (slot_flagged ((2 * slot) / 2)) c.canceller.invariant.asks ∙ ap (λ (k : ℕ). slot_flagged k (Canceller a)) half) in
    ap (λ (v : View). flag (asking_of v).flagged slot) is ∙ get_or-set_same a.flagged slot true false known
