use Rattle.std.proofs.Common.{sym, ap, ◌∙◌}
use Rattle.irp_manager.specs.Slots.{live_of, without}
use Rattle.irp_manager.proofs.SlabMaps.{live-emptied}
use Rattle.irp_manager.proofs.slab_keep.SlabKeep.take_out_idle.Goals as goal

pub returns-in-Some : goal.returns-in-Some
returns-in-Some c =
    let keep = c.args.self.now in
    live-emptied keep.places c.try_remove-gone.new.self c.in-Some.slot c.try_remove-gone.ensures.updates
    ∙ ap (without (live_of keep.places.slots)) (sym c.in-Some.is)

pub returns-in-None : goal.returns-in-None
returns-in-None c = ap (without (live_of c.args.self.now.places.slots)) (sym c.in-None.is)
