use Rattle.std.proofs.Common.{[], ◌∷◌, Some, refl, sym, subst, ◌+◌, ◌≤◌}
use Rattle.std.specs.Prelude.{vec_len, vec_capacity}
use Rattle.irp_types.specs.Checks.{first_failing, or_else}
use Rattle.irp_types.specs.State.{StateValue, LivePacket, Tables}
use Rattle.irp_types.specs.Refusals.{packet_refusal, ended_check}
use Rattle.irp_unwind.specs.Endings.{can_ask_up}
use Rattle.irp_manager.specs.ManagerStates.{state_of}
use Rattle.irp_manager.specs.Calls.{Goes, packet_refusal_in, IsCancelled}
use Rattle.irp_manager.proofs.Lent.{on_some, lent_at}
use Rattle.irp_manager.proofs.OnePacket.{found, goes_on, packet_checked, stands_on}
use Rattle.irp_manager.proofs.manager_state.ManagerState.cancel.Goals as goal

pub returns-clause-stepped : goal.returns-clause-stepped
returns-clause-stepped g c drained =
    let tables = g.A.Ask.tables c.args.ask.now in
    let state : StateValue = state_of g.K.Keep.live c.args.self.now in
    let irp = c.args.irp in
    let live : LivePacket = c.in-Some.live.now in
    let new : LivePacket = c.cancel.new.live in
    let asked = c.cancel.new.asked.items in
    let reply = c.cancel.result in
    let at = lent_at _ c.get_mut.result c.in-Some.live c.get_mut.ensures.value c.in-Some.is in
    let slots = g.K.Keep.live (c.get_mut.follows.lender new) in
    let put = on_some _ c.get_mut.result c.in-Some.live c.in-Some.is (c.get_mut.follows.holds new).0 in
    let goes = c.cancel.ensures.goes in
    let here = packet_refusal_in (Some live) irp in
    let refusal = or_else here (first_failing (ended_check live.packet ∷ [])) in
    record {
      step = λ fixed same agrees. goes_on state irp (packet_refusal state irp) here (λ packet. first_failing (ended_check packet ∷ [])) (IsCancelled fixed.tables irp asked reply) live new asked reply slots (packet_checked state irp live at) at put
          (subst (λ (given : Tables). Goes refusal (IsCancelled given irp asked reply live.packet) live new asked reply) (sym same) goes);
      stands = stands_on tables.counts state irp.slot refusal (IsCancelled tables irp asked reply live.packet) live new asked reply slots at put goes
          c.cancel.ensures.sound c.requires.stands;
      fixed = (refl, refl);
    }

pub cancel-requires-clause-sound : goal.cancel-requires-clause-sound
cancel-requires-clause-sound g c = c.requires.stands.packets c.args.irp.slot c.in-Some.live.now (lent_at _ c.get_mut.result c.in-Some.live c.get_mut.ensures.value c.in-Some.is)

pub cancel-requires-clause-room : goal.cancel-requires-clause-room
cancel-requires-clause-room g c =
    let state : StateValue = state_of g.K.Keep.live c.args.self.now in
    let at = lent_at _ c.get_mut.result c.in-Some.live c.get_mut.ensures.value c.in-Some.is in
    subst (λ (given : LivePacket). vec_len c.args.asked.now + (1 + can_ask_up given.packet) ≤ vec_capacity c.args.asked.now) (found state c.args.irp.slot c.in-Some.live.now at) c.requires.room

pub returns-clause-next : goal.returns-clause-next
returns-clause-next g c = (c.get_mut.follows.holds c.cancel.new.live).1
