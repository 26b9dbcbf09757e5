use Rattle.std.proofs.Common.{Some, refl, ◌+◌, ◌≤◌, subst}
use Rattle.std.specs.Prelude.{vec_len, vec_capacity}
use Rattle.irp_types.specs.Checks.{or_else}
use Rattle.irp_types.specs.State.{StateValue, LivePacket}
use Rattle.irp_types.specs.Refusals.{packet_refusal, take_refusal}
use Rattle.irp_unwind.specs.Endings.{can_ask_up}
use Rattle.irp_manager.specs.ManagerStates.{state_of}
use Rattle.irp_manager.specs.Calls.{packet_refusal_in, Takes}
use Rattle.irp_manager.proofs.Lent.{on_some, lent_at}
use Rattle.irp_manager.proofs.OnePacket.{found, goes_on, packet_checked, stands_on}
use Rattle.irp_manager.proofs.Turns.{taken_step}
use Rattle.irp_manager.proofs.manager_state.ManagerState.finish_taken.Goals as goal

pub returns-clause-stepped : goal.returns-clause-stepped
returns-clause-stepped g c drained =
    let tables = g.A.Ask.tables c.args.ask.now in
    let state : StateValue = state_of g.K.Keep.live c.args.self.now in
    let irp = c.args.irp in
    let live : LivePacket = c.in-Some.live.now in
    let new : LivePacket = c.finish_taken.new.live in
    let asked = c.finish_taken.new.asked.items in
    let reply = c.finish_taken.result in
    let at = lent_at _ c.get_mut.result c.in-Some.live c.get_mut.ensures.value c.in-Some.is in
    let slots = g.K.Keep.live (c.get_mut.follows.lender new) in
    let put = on_some _ c.get_mut.result c.in-Some.live c.in-Some.is (c.get_mut.follows.holds new).0 in
    let goes = c.finish_taken.ensures.goes in
    let here = packet_refusal_in (Some live) irp in
    record {
      step = λ fixed same agrees. taken_step fixed drained state irp c.args.token c.args.status c.args.information asked reply (record state { live = slots })
          (goes_on state irp (packet_refusal state irp) here (λ packet. take_refusal packet irp.use_no c.args.token c.args.status) (Takes irp c.args.status c.args.information asked reply) live new asked reply slots
          (packet_checked state irp live at) at put goes);
      stands = stands_on tables.counts state irp.slot (or_else here (take_refusal live.packet irp.use_no c.args.token c.args.status)) (Takes irp c.args.status c.args.information asked reply live.packet) live new asked reply slots at put goes
          c.finish_taken.ensures.sound c.requires.stands;
      fixed = (refl, refl);
    }

pub finish_taken-requires-clause-sound : goal.finish_taken-requires-clause-sound
finish_taken-requires-clause-sound g c = c.requires.stands.packets c.args.irp.slot c.in-Some.live.now (lent_at _ c.get_mut.result c.in-Some.live c.get_mut.ensures.value c.in-Some.is)

pub finish_taken-requires-clause-room : goal.finish_taken-requires-clause-room
finish_taken-requires-clause-room g c =
    let state : StateValue = state_of g.K.Keep.live c.args.self.now in
    let at = lent_at _ c.get_mut.result c.in-Some.live c.get_mut.ensures.value c.in-Some.is in
    subst (λ (given : LivePacket). vec_len c.args.asked.now + can_ask_up given.packet ≤ vec_capacity c.args.asked.now) (found state c.args.irp.slot c.in-Some.live.now at) c.requires.room

pub returns-clause-next : goal.returns-clause-next
returns-clause-next g c = (c.get_mut.follows.holds c.finish_taken.new.live).1
