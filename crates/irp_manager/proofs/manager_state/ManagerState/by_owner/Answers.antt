use Rattle.std.proofs.Common.{◌≡◌, ℕ, ◌+◌, ◌≤◌, [], Some, None, refl, sym, ◌∙◌, ap, subst}
use Rattle.std.specs.Prelude.{vec_len, vec_capacity}
use Rattle.irp_types.specs.State.{StateValue, LivePacket}
use Rattle.irp_types.specs.declared.routine.Known.{Known}
use Rattle.irp_types.specs.declared.call.Party.{Party}
use Rattle.irp_types.specs.declared.names.IrpRef.{IrpRef}
use Rattle.irp_types.specs.declared.reply.Reply.TheVariants.{Refused}
use Rattle.irp_types.specs.Refusals.{routine_refusal, cancel_refusal}
use Rattle.irp_unwind.specs.Endings.{can_ask_up}
use Rattle.irp_unwind.specs.Descents.{can_ask_down}
use Rattle.irp_manager.specs.Calls.{Goes, Sets, SetsCancel, party_refusal_in}
use Rattle.irp_manager.specs.ManagerStates.{state_of}
use Rattle.irp_manager.proofs.Lent.{on_some, lent_at}
use Rattle.irp_manager.proofs.OnePacket.{found, not_ended, not_in_slot}
use Rattle.irp_manager.proofs.Owners.{owned, owned_goes, refused_goes, asks_down, asks_up, sent_stays}
use Rattle.irp_manager.proofs.Turns.{filled_sound, copied_sound, left_sound, marked_sound, cancel_sound, set_sound}
use Rattle.irp_manager.proofs.manager_state.ManagerState.by_owner.Goals as goal

pub returns-in-Some-party_refusal-clause-stepped : goal.returns-in-Some-party_refusal-clause-stepped
returns-in-Some-party_refusal-clause-stepped g c drained =
    let tables = g.A.Ask.tables c.args.ask.now in
    let by : Party × IrpRef = (c.args.party, c.args.irp) in
    let live : LivePacket = c.in-Some.live.now in
    let refusal = c.in-Some-party_refusal.refusal in
    let at = lent_at _ c.get_mut.result c.in-Some.live c.get_mut.ensures.value c.in-Some.is in
    let put = on_some _ c.get_mut.result c.in-Some.live c.in-Some.is (c.get_mut.follows.holds live).0 in
    owned g.K.Keep.live tables drained c.args.self.now _ c.args.call by c.args.asked.now.items (Refused refusal) live live _ c.requires.named at put
    (refused_goes tables _ c.args.call by c.args.asked.now.items refusal _ live (sym c.party_refusal.ensures.refusal ∙ c.in-Some-party_refusal.is) c.requires.empty)
    (c.requires.stands.packets c.args.irp.slot live at) c.requires.stands refl (refl, refl)

pub returns-in-Some-party_refusal-clause-next : goal.returns-in-Some-party_refusal-clause-next
returns-in-Some-party_refusal-clause-next g c = (c.get_mut.follows.holds c.in-Some.live.now).1

pub returns-in-SetNext-clause-stepped : goal.returns-in-SetNext-clause-stepped
returns-in-SetNext-clause-stepped g c drained =
    let tables = g.A.Ask.tables c.args.ask.now in
    let live : LivePacket = c.in-Some.live.now in
    let new : LivePacket = c.set_next.new.live in
    let reply = c.set_next.result in
    let goes = c.set_next.ensures.goes in
    let at = lent_at _ c.get_mut.result c.in-Some.live c.get_mut.ensures.value c.in-Some.is in
    let put = on_some _ c.get_mut.result c.in-Some.live c.in-Some.is (c.get_mut.follows.holds new).0 in
    let own : party_refusal_in (Some live) c.args.party c.args.irp ≡ None = sym c.party_refusal.ensures.refusal ∙ c.in_default-party_refusal.is in
    let sound = c.requires.stands.packets c.args.irp.slot live at in
    owned g.K.Keep.live tables drained c.args.self.now _ c.args.call (c.args.party, c.args.irp) c.args.asked.now.items reply live new _ c.requires.named at put
    (owned_goes tables _ c.args.call _ (c.args.party, c.args.irp) c.args.asked.now.items [] reply live new c.in-SetNext.is c.requires.empty own goes)
    (filled_sound tables.counts _ _ reply live new goes (not_in_slot c.args.party c.args.irp live own) sound) c.requires.stands refl (refl, refl)

pub returns-in-SetNext-clause-next : goal.returns-in-SetNext-clause-next
returns-in-SetNext-clause-next g c = (c.get_mut.follows.holds c.set_next.new.live).1

pub returns-in-CopyToNext-clause-stepped : goal.returns-in-CopyToNext-clause-stepped
returns-in-CopyToNext-clause-stepped g c drained =
    let tables = g.A.Ask.tables c.args.ask.now in
    let live : LivePacket = c.in-Some.live.now in
    let new : LivePacket = c.copy_to_next.new.live in
    let reply = c.copy_to_next.result in
    let goes = c.copy_to_next.ensures.goes in
    let at = lent_at _ c.get_mut.result c.in-Some.live c.get_mut.ensures.value c.in-Some.is in
    let put = on_some _ c.get_mut.result c.in-Some.live c.in-Some.is (c.get_mut.follows.holds new).0 in
    let own : party_refusal_in (Some live) c.args.party c.args.irp ≡ None = sym c.party_refusal.ensures.refusal ∙ c.in_default-party_refusal.is in
    let sound = c.requires.stands.packets c.args.irp.slot live at in
    owned g.K.Keep.live tables drained c.args.self.now _ c.args.call (c.args.party, c.args.irp) c.args.asked.now.items reply live new _ c.requires.named at put
    (owned_goes tables _ c.args.call _ (c.args.party, c.args.irp) c.args.asked.now.items [] reply live new c.in-CopyToNext.is c.requires.empty own goes)
    (copied_sound tables.counts reply live new goes (not_in_slot c.args.party c.args.irp live own) sound) c.requires.stands refl (refl, refl)

pub returns-in-CopyToNext-clause-next : goal.returns-in-CopyToNext-clause-next
returns-in-CopyToNext-clause-next g c = (c.get_mut.follows.holds c.copy_to_next.new.live).1

pub returns-in-Skip-clause-stepped : goal.returns-in-Skip-clause-stepped
returns-in-Skip-clause-stepped g c drained =
    let tables = g.A.Ask.tables c.args.ask.now in
    let live : LivePacket = c.in-Some.live.now in
    let new : LivePacket = c.skip.new.live in
    let reply = c.skip.result in
    let goes = c.skip.ensures.goes in
    let at = lent_at _ c.get_mut.result c.in-Some.live c.get_mut.ensures.value c.in-Some.is in
    let put = on_some _ c.get_mut.result c.in-Some.live c.in-Some.is (c.get_mut.follows.holds new).0 in
    let own : party_refusal_in (Some live) c.args.party c.args.irp ≡ None = sym c.party_refusal.ensures.refusal ∙ c.in_default-party_refusal.is in
    let sound = c.requires.stands.packets c.args.irp.slot live at in
    owned g.K.Keep.live tables drained c.args.self.now _ c.args.call (c.args.party, c.args.irp) c.args.asked.now.items reply live new _ c.requires.named at put
    (owned_goes tables _ c.args.call _ (c.args.party, c.args.irp) c.args.asked.now.items [] reply live new c.in-Skip.is c.requires.empty own goes)
    (left_sound tables.counts reply live new goes (not_ended c.args.party c.args.irp live own) (not_in_slot c.args.party c.args.irp live own) sound) c.requires.stands refl (refl, refl)

pub returns-in-Skip-clause-next : goal.returns-in-Skip-clause-next
returns-in-Skip-clause-next g c = (c.get_mut.follows.holds c.skip.new.live).1

pub returns-in-MarkPending-clause-stepped : goal.returns-in-MarkPending-clause-stepped
returns-in-MarkPending-clause-stepped g c drained =
    let tables = g.A.Ask.tables c.args.ask.now in
    let live : LivePacket = c.in-Some.live.now in
    let new : LivePacket = c.mark_pending.new.live in
    let reply = c.mark_pending.result in
    let goes = c.mark_pending.ensures.goes in
    let at = lent_at _ c.get_mut.result c.in-Some.live c.get_mut.ensures.value c.in-Some.is in
    let put = on_some _ c.get_mut.result c.in-Some.live c.in-Some.is (c.get_mut.follows.holds new).0 in
    let own : party_refusal_in (Some live) c.args.party c.args.irp ≡ None = sym c.party_refusal.ensures.refusal ∙ c.in_default-party_refusal.is in
    let sound = c.requires.stands.packets c.args.irp.slot live at in
    owned g.K.Keep.live tables drained c.args.self.now _ c.args.call (c.args.party, c.args.irp) c.args.asked.now.items reply live new _ c.requires.named at put
    (owned_goes tables _ c.args.call _ (c.args.party, c.args.irp) c.args.asked.now.items [] reply live new c.in-MarkPending.is c.requires.empty own goes)
    (marked_sound tables.counts reply live new goes sound) c.requires.stands refl (refl, refl)

pub returns-in-MarkPending-clause-next : goal.returns-in-MarkPending-clause-next
returns-in-MarkPending-clause-next g c = (c.get_mut.follows.holds c.mark_pending.new.live).1

pub returns-in-SetRoutine-clause-stepped : goal.returns-in-SetRoutine-clause-stepped
returns-in-SetRoutine-clause-stepped g c drained =
    let tables = g.A.Ask.tables c.args.ask.now in
    let setting = c.in-SetRoutine.setting in
    let live : LivePacket = c.in-Some.live.now in
    let new : LivePacket = c.set_routine.new.live in
    let reply = c.set_routine.result in
    let goes : Goes (routine_refusal tables.counts live.packet setting) (Sets setting [] reply live.packet) live new [] reply =
    subst (λ (counts : Known). Goes (routine_refusal counts live.packet setting) (Sets setting [] reply live.packet) live new [] reply) c.counts-counts.ensures c.set_routine.ensures.goes in
    let at = lent_at _ c.get_mut.result c.in-Some.live c.get_mut.ensures.value c.in-Some.is in
    let put = on_some _ c.get_mut.result c.in-Some.live c.in-Some.is (c.get_mut.follows.holds new).0 in
    let own : party_refusal_in (Some live) c.args.party c.args.irp ≡ None = sym c.party_refusal.ensures.refusal ∙ c.in_default-party_refusal.is in
    let sound = c.requires.stands.packets c.args.irp.slot live at in
    owned g.K.Keep.live tables drained c.args.self.now _ c.args.call (c.args.party, c.args.irp) c.args.asked.now.items reply live new _ c.requires.named at put
    (owned_goes tables _ c.args.call _ (c.args.party, c.args.irp) c.args.asked.now.items [] reply live new c.in-SetRoutine.is c.requires.empty own goes)
    (set_sound tables.counts setting reply live new goes (not_ended c.args.party c.args.irp live own) (not_in_slot c.args.party c.args.irp live own) sound) c.requires.stands refl (refl, refl)

pub returns-in-SetRoutine-clause-next : goal.returns-in-SetRoutine-clause-next
returns-in-SetRoutine-clause-next g c = (c.get_mut.follows.holds c.set_routine.new.live).1

pub returns-in-SetCancelRoutine-clause-stepped : goal.returns-in-SetCancelRoutine-clause-stepped
returns-in-SetCancelRoutine-clause-stepped g c drained =
    let tables = g.A.Ask.tables c.args.ask.now in
    let cancel = c.in-SetCancelRoutine.cancel in
    let live : LivePacket = c.in-Some.live.now in
    let new : LivePacket = c.set_cancel_routine.new.live in
    let reply = c.set_cancel_routine.result in
    let goes : Goes (cancel_refusal tables.counts live.packet cancel) (SetsCancel cancel [] reply live.packet) live new [] reply =
    subst (λ (counts : Known). Goes (cancel_refusal counts live.packet cancel) (SetsCancel cancel [] reply live.packet) live new [] reply) c.counts-counts.ensures c.set_cancel_routine.ensures.goes in
    let at = lent_at _ c.get_mut.result c.in-Some.live c.get_mut.ensures.value c.in-Some.is in
    let put = on_some _ c.get_mut.result c.in-Some.live c.in-Some.is (c.get_mut.follows.holds new).0 in
    let own : party_refusal_in (Some live) c.args.party c.args.irp ≡ None = sym c.party_refusal.ensures.refusal ∙ c.in_default-party_refusal.is in
    let sound = c.requires.stands.packets c.args.irp.slot live at in
    owned g.K.Keep.live tables drained c.args.self.now _ c.args.call (c.args.party, c.args.irp) c.args.asked.now.items reply live new _ c.requires.named at put
    (owned_goes tables _ c.args.call _ (c.args.party, c.args.irp) c.args.asked.now.items [] reply live new c.in-SetCancelRoutine.is c.requires.empty own goes)
    (cancel_sound tables.counts cancel reply live new goes (not_ended c.args.party c.args.irp live own) (not_in_slot c.args.party c.args.irp live own) sound) c.requires.stands refl (refl, refl)

pub returns-in-SetCancelRoutine-clause-next : goal.returns-in-SetCancelRoutine-clause-next
returns-in-SetCancelRoutine-clause-next g c = (c.get_mut.follows.holds c.set_cancel_routine.new.live).1

pub returns-in-CallDriver-clause-stepped : goal.returns-in-CallDriver-clause-stepped
returns-in-CallDriver-clause-stepped g c drained =
    let tables = g.A.Ask.tables c.args.ask.now in
    let state : StateValue = state_of g.K.Keep.live c.args.self.now in
    let live : LivePacket = c.in-Some.live.now in
    let new : LivePacket = c.send.new.live in
    let asked = c.send.new.asked.items in
    let reply = c.send.result in
    let at = lent_at _ c.get_mut.result c.in-Some.live c.get_mut.ensures.value c.in-Some.is in
    let put = on_some _ c.get_mut.result c.in-Some.live c.in-Some.is (c.get_mut.follows.holds new).0 in
    let own : party_refusal_in (Some live) c.args.party c.args.irp ≡ None = sym c.party_refusal.ensures.refusal ∙ c.in_default-party_refusal.is in
    owned g.K.Keep.live tables drained c.args.self.now _ c.args.call (c.args.party, c.args.irp) asked reply live new _ c.requires.named at put
    (owned_goes tables state.devices c.args.call _ (c.args.party, c.args.irp) asked asked reply live new c.in-CallDriver.is refl own c.send.ensures.goes)
    c.send.ensures.sound c.requires.stands refl (refl, refl)

pub returns-in-CallDriver-clause-next : goal.returns-in-CallDriver-clause-next
returns-in-CallDriver-clause-next g c = (c.get_mut.follows.holds c.send.new.live).1

pub send-requires-clause-sound : goal.send-requires-clause-sound
send-requires-clause-sound g c = c.requires.stands.packets c.args.irp.slot c.in-Some.live.now (lent_at _ c.get_mut.result c.in-Some.live c.get_mut.ensures.value c.in-Some.is)

pub send-requires-clause-unheld : goal.send-requires-clause-unheld
send-requires-clause-unheld g c = c.party_refusal.ensures.unheld c.in_default-party_refusal.is

pub send-requires-clause-room : goal.send-requires-clause-room
send-requires-clause-room g c =
    let state : StateValue = state_of g.K.Keep.live c.args.self.now in
    let at = lent_at _ c.get_mut.result c.in-Some.live c.get_mut.ensures.value c.in-Some.is in
    let asks = asks_down state c.args.call (c.args.party, c.args.irp) _ _ c.in-CallDriver.target c.requires.named c.in-CallDriver.is in
    subst (λ (count : ℕ). vec_len c.args.asked.now + count ≤ vec_capacity c.args.asked.now)
    (asks ∙ ap (λ (given : LivePacket). can_ask_down state.devices given.packet c.in-CallDriver.target.0) (found state c.args.irp.slot c.in-Some.live.now at)) c.requires.room

pub returns-in-CallDriver-clause-stays : goal.returns-in-CallDriver-clause-stays
returns-in-CallDriver-clause-stays g c =
    let new : LivePacket = c.send.new.live in
    let at = lent_at _ c.get_mut.result c.in-Some.live c.get_mut.ensures.value c.in-Some.is in
    let put = on_some _ c.get_mut.result c.in-Some.live c.in-Some.is (c.get_mut.follows.holds new).0 in
    sent_stays (state_of g.K.Keep.live c.args.self.now) c.args.call (c.args.party, c.args.irp) c.send.result c.in-Some.live.now new _ c.requires.named at put c.send.ensures.stays

pub returns-in-Complete-clause-stepped : goal.returns-in-Complete-clause-stepped
returns-in-Complete-clause-stepped g c drained =
    let tables = g.A.Ask.tables c.args.ask.now in
    let state : StateValue = state_of g.K.Keep.live c.args.self.now in
    let live : LivePacket = c.in-Some.live.now in
    let new : LivePacket = c.complete.new.live in
    let asked = c.complete.new.asked.items in
    let reply = c.complete.result in
    let at = lent_at _ c.get_mut.result c.in-Some.live c.get_mut.ensures.value c.in-Some.is in
    let put = on_some _ c.get_mut.result c.in-Some.live c.in-Some.is (c.get_mut.follows.holds new).0 in
    let own : party_refusal_in (Some live) c.args.party c.args.irp ≡ None = sym c.party_refusal.ensures.refusal ∙ c.in_default-party_refusal.is in
    owned g.K.Keep.live tables drained c.args.self.now _ c.args.call (c.args.party, c.args.irp) asked reply live new _ c.requires.named at put
    (owned_goes tables state.devices c.args.call _ (c.args.party, c.args.irp) asked asked reply live new c.in-Complete.is refl own c.complete.ensures.goes)
    c.complete.ensures.sound c.requires.stands refl (refl, refl)

pub returns-in-Complete-clause-next : goal.returns-in-Complete-clause-next
returns-in-Complete-clause-next g c = (c.get_mut.follows.holds c.complete.new.live).1

pub complete-requires-clause-sound : goal.complete-requires-clause-sound
complete-requires-clause-sound g c = c.requires.stands.packets c.args.irp.slot c.in-Some.live.now (lent_at _ c.get_mut.result c.in-Some.live c.get_mut.ensures.value c.in-Some.is)

pub complete-requires-clause-unheld : goal.complete-requires-clause-unheld
complete-requires-clause-unheld g c = c.party_refusal.ensures.unheld c.in_default-party_refusal.is

pub complete-requires-clause-room : goal.complete-requires-clause-room
complete-requires-clause-room g c =
    let state : StateValue = state_of g.K.Keep.live c.args.self.now in
    let at = lent_at _ c.get_mut.result c.in-Some.live c.get_mut.ensures.value c.in-Some.is in
    let asks = asks_up state c.args.call (c.args.party, c.args.irp) _ _ _ _ c.requires.named c.in-Complete.is in
    subst (λ (count : ℕ). vec_len c.args.asked.now + count ≤ vec_capacity c.args.asked.now)
    (asks ∙ ap (λ (given : LivePacket). can_ask_up given.packet) (found state c.args.irp.slot c.in-Some.live.now at)) c.requires.room
