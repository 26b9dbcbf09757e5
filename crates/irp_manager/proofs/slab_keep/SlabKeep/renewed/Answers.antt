use Rattle.std.proofs.Common.{◌≡◌, ℕ, Option, None, sym, ap, subst, ◌∙◌}
use Rattle.std.specs.Prelude.{IfNone}
use Rattle.std.specs.Option.{option_copied_mut}
use Rattle.std.specs.FinMap as fin
use Rattle.irp_types.specs.State.{LivePacket}
use Rattle.irp_manager.specs.Keeps.{slabbed}
use Rattle.irp_manager.specs.Slots.{Slots, live_of, new_live, without}
use Rattle.irp_manager.proofs.SlotMaps.{get-live}
use Rattle.irp_manager.proofs.SlabMaps.{live-lent}
use Rattle.irp_manager.proofs.Lent.{on_some}
use Rattle.irp_manager.proofs.Idle.{absent, get_idle, refilled}
use Rattle.irp_manager.proofs.slab_keep.SlabKeep.renewed.Goals as goal

pub returns-in_err-live-clause-same : goal.returns-in_err-live-clause-same
returns-in_err-live-clause-same c =
    let keep = c.args.self.now in
    let slots : Slots = live_of keep.places.slots in
    let slot = c.in_ok-earlier.earlier in
    let none : fin.get slots slot ≡ None =
    get-live keep.places.slots slot ∙ sym c.get_mut.ensures.value ∙ ap option_copied_mut c.in_err-live.was in
    subst (λ (result : Option ℕ). IfNone result (slots ≡ slabbed keep)) (sym c.from_residual-in_err-live.ensures)
    (sym (absent slots slot none) ∙ ap (without slots) (sym c.in_ok-earlier.was))

pub returns-clause-vacant : goal.returns-clause-vacant
returns-clause-vacant c =
    let keep = c.args.self.now in
    get_idle (live_of keep.places.slots) keep.idle c.in_ok-earlier.earlier c.in_ok-earlier.was

pub returns-clause-put : goal.returns-clause-put
returns-clause-put c =
    let keep = c.args.self.now in
    let slots : Slots = live_of keep.places.slots in
    let slot = c.in_ok-earlier.earlier in
    let new : LivePacket = new_live c.args.size c.args.use_no in
    on_some _ c.get_mut.result c.in_ok-live.live c.in_ok-live.was (live-lent keep.places slot c.get_mut.result c.get_mut.ensures.value c.renew.new.self)
    ∙ ap (λ (live : LivePacket). fin.insert slots slot live) c.renew.ensures
    ∙ refilled slots slot new
    ∙ ap (λ (idle : Option ℕ). fin.insert (without slots idle) slot new) (sym c.in_ok-earlier.was)
