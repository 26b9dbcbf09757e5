use Rattle.std.proofs.Common.{sym, ◌∙◌, ap}
use Rattle.std.specs.Option.{option_copied}
use Rattle.irp_manager.specs.ManagerStates.{state_of}
use Rattle.irp_manager.proofs.Looking.{no_packet}
use Rattle.irp_manager.proofs.OnePacket.{packet_checked}
use Rattle.irp_manager.proofs.manager_state.ManagerState.naming.Goals as goal

pub returns-in-None : goal.returns-in-None
returns-in-None g c = sym (no_packet (state_of g.K.Keep.live c.args.self.now) c.args.irp (sym c.get.ensures ∙ ap option_copied c.in-None.is))

pub returns-in-Some : goal.returns-in-Some
returns-in-Some g c =
    c.packet_refusal.ensures ∙ sym (packet_checked (state_of g.K.Keep.live c.args.self.now) c.args.irp c.in-Some.live.now (sym c.get.ensures ∙ ap option_copied c.in-Some.is))
