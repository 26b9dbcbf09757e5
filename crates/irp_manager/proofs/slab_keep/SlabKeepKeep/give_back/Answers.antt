use Rattle.std.proofs.Common.{◌≡◌, true, is_some, sym, ◌∙◌, ap, if◌then◌else◌}
use Rattle.std.specs.FinMap as fin
use Rattle.irp_manager.specs.Slots.{Slots, place_at}
use Rattle.irp_manager.proofs.SlotMaps.{get-live}
use Rattle.irp_manager.proofs.slab_keep.SlabKeepKeep.give_back.Goals as goal

pub returns-clause-gone : goal.returns-clause-gone
returns-clause-gone c = ap (λ (slots : Slots). fin.remove slots c.args.slot) c.take_out_idle.ensures

pub returns-clause-gave : goal.returns-clause-gave
returns-clause-gave c was =
    let keep = c.args.self.now in
    let places = c.take_out_idle.new.self.places in
    let lies : is_some (place_at places.slots c.args.slot) ≡ true =
    ap is_some (sym (ap (λ (slots : Slots). fin.get slots c.args.slot) (sym c.take_out_idle.ensures) ∙ get-live places.slots c.args.slot)) ∙ was in
    ap (λ b. if b then c.args.slot else places.vacant_key) (sym lies)
