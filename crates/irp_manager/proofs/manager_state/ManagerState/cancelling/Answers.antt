use Rattle.std.proofs.Common.{sym, ◌∙◌, ap}
use Rattle.std.specs.Option.{option_copied}
use Rattle.std.proofs.Common.{[], ◌∷◌}
use Rattle.irp_types.specs.Checks.{first_failing}
use Rattle.irp_types.specs.Refusals.{ended_check}
use Rattle.irp_types.specs.State.{LivePacket}
use Rattle.irp_manager.specs.ManagerStates.{state_of}
use Rattle.irp_manager.proofs.Looking.{without_packet, other_packet, own_packet}
use Rattle.irp_manager.proofs.manager_state.ManagerState.cancelling.Goals as goal

pub returns-in_default : goal.returns-in_default
returns-in_default g c =
    without_packet (state_of g.K.Keep.live c.args.self.now) c.args.irp _ (sym c.get.ensures ∙ ap option_copied c.in_default.is)

pub returns-in-Some-packet_refusal : goal.returns-in-Some-packet_refusal
returns-in-Some-packet_refusal g c =
    other_packet (state_of g.K.Keep.live c.args.self.now) c.args.irp c.in-Some.live.now c.in-Some-packet_refusal.refusal _ (sym c.get.ensures ∙ ap option_copied c.in-Some.is)
    (sym c.in-Some-packet_refusal.is ∙ c.packet_refusal.ensures)

pub returns : goal.returns
returns g c =
    own_packet (state_of g.K.Keep.live c.args.self.now) c.args.irp c.in-Some.live.now (λ packet. first_failing (ended_check packet ∷ [])) c.no_more.result
    (sym c.get.ensures ∙ ap option_copied c.in-Some.is) (sym c.in_default-packet_refusal.is ∙ c.packet_refusal.ensures) (c.no_more.ensures ∙ ap (λ (given : LivePacket). first_failing (ended_check given.packet ∷ [])) c.live.view_is)
