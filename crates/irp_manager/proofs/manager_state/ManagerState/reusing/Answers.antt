use Rattle.std.proofs.Common.{[], ◌∷◌, sym, ◌∙◌}
use Rattle.irp_types.specs.Refusals.{is_owned_by_device, packet_refusal, use_check}
use Rattle.irp_types.specs.State.{packet_of}
use Rattle.irp_types.specs.declared.refusal.Refusal.TheVariants.{InFlight}
use Rattle.irp_manager.specs.ManagerStates.{state_of}
use Rattle.irp_manager.proofs.Looking.{longer, rest_left}
use Rattle.irp_manager.proofs.manager_state.ManagerState.reusing.Goals as goal

pub returns-in-Some : goal.returns-in-Some
returns-in-Some g c =
    let state = state_of g.K.Keep.live c.args.self.now in
    longer (packet_refusal state c.args.irp) (is_owned_by_device (packet_of state c.args.irp).owner) InFlight c.in-Some.refusal (use_check state ∷ [])
    (sym c.flight_refusal.ensures ∙ c.in-Some.is)

pub returns : goal.returns
returns g c =
    let state = state_of g.K.Keep.live c.args.self.now in
    c.no_use_left.ensures
    ∙ rest_left (packet_refusal state c.args.irp) (is_owned_by_device (packet_of state c.args.irp).owner) InFlight (use_check state ∷ [])
    (sym c.flight_refusal.ensures ∙ c.in_default.is)
