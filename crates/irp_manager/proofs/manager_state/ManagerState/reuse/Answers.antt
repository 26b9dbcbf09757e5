use Rattle.std.proofs.Common.{◌≡◌, refl, sym, ◌∙◌, ap, subst}
use Rattle.std.specs.FinMap as fin
use Rattle.irp_types.specs.Packet.{after_reset}
use Rattle.irp_types.specs.State.{StateValue, LivePacket}
use Rattle.irp_types.specs.Standing.{StandingFacts}
use Rattle.irp_manager.specs.Slots.{Slots}
use Rattle.irp_manager.specs.ManagerStates.{state_of}
use Rattle.irp_manager.specs.Calls.{Renews}
use Rattle.irp_manager.proofs.Lent.{on_some, lent_at}
use Rattle.irp_manager.proofs.Renewed.{kept, refused_step, renewed_step, renewed_stands}
use Rattle.irp_manager.proofs.manager_state.ManagerState.reuse.Goals as goal

pub returns-in-Some-reuse-clause-stepped : goal.returns-in-Some-reuse-clause-stepped
returns-in-Some-reuse-clause-stepped g c tables drained stands =
    let state : StateValue = state_of g.K.Keep.live c.args.self.now in
    let live : LivePacket = c.in-Some.live.now in
    let new : LivePacket = c.reuse.new.live in
    let refusal = c.in-Some-reuse.refusal in
    let at = lent_at _ c.get_mut.result c.in-Some.live c.get_mut.ensures.value c.in-Some.is in
    let slots : Slots = g.K.Keep.live (c.get_mut.follows.lender new) in
    let put = on_some _ c.get_mut.result c.in-Some.live c.in-Some.is (c.get_mut.follows.holds new).0 in
    let same : new ≡ live = subst (λ given. Renews given c.args.status state.next_use live new) c.in-Some-reuse.is c.reuse.ensures.renews in
    record {
      step = λ fixed alike agrees. refused_step fixed state drained c.args.irp c.args.status live new slots refusal at put same (sym c.reuse.ensures.refusal ∙ c.in-Some-reuse.is);
      stands = subst (StandingFacts tables.counts) (sym (kept state c.args.irp.slot live new slots at put same)) stands;
      fixed = (refl, refl);
    }

pub returns-clause-stepped : goal.returns-clause-stepped
returns-clause-stepped g c tables drained stands =
    let state : StateValue = state_of g.K.Keep.live c.args.self.now in
    let irp = c.args.irp in
    let status = c.args.status in
    let live : LivePacket = c.in-Some.live.now in
    let new : LivePacket = c.reuse.new.live in
    let at = lent_at _ c.get_mut.result c.in-Some.live c.get_mut.ensures.value c.in-Some.is in
    let slots : Slots = g.K.Keep.live (c.get_mut.follows.lender new) in
    let put = on_some _ c.get_mut.result c.in-Some.live c.in-Some.is (c.get_mut.follows.holds new).0 in
    let renews : new ≡ record { packet = after_reset live.packet status; use_no = state.next_use } = subst (λ given. Renews given status state.next_use live new) c.in_default-reuse.is c.reuse.ensures.renews in
    let again : slots ≡ fin.insert state.live irp.slot (record { packet = after_reset live.packet status; use_no = state.next_use }) = put ∙ ap (fin.insert state.live irp.slot) renews in
    record {
      step = λ fixed alike agrees. renewed_step fixed state drained irp status live slots at again (sym c.reuse.ensures.refusal ∙ c.in_default-reuse.is);
      stands = renewed_stands tables.counts state irp.slot live status slots at again stands;
      fixed = (refl, refl);
    }

pub returns-in-Some-reuse-clause-next : goal.returns-in-Some-reuse-clause-next
returns-in-Some-reuse-clause-next g c = (c.get_mut.follows.holds c.reuse.new.live).1

pub returns-clause-next : goal.returns-clause-next
returns-clause-next g c = (c.get_mut.follows.holds c.reuse.new.live).1
