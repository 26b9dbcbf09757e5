use Rattle.std.proofs.Common.{◌≡◌, ℕ, ◌+◌, [], Option, None, MatchOption, refl, sym, ◌∙◌, subst}
use Rattle.std.specs.FinMap as fin
use Rattle.irp_types.specs.Packet.{new_packet}
use Rattle.irp_types.specs.State.{StateValue}
use Rattle.irp_types.specs.Steps.{Unasked, with_new_packet, Effect}
use Rattle.irp_types.specs.declared.call.Call.TheVariants.{Allocate}
use Rattle.irp_types.specs.declared.refusal.Refusal.{Refusal}
use Rattle.irp_types.specs.declared.reply.Reply.{Reply}
use Rattle.irp_types.specs.declared.reply.Reply.TheVariants.{Refused, Irp}
use Rattle.irp_types.specs.Standing.{StandingFacts}
use Rattle.irp_manager.specs.ManagerStates.{state_of}
use Rattle.irp_manager.proofs.Sound.{sound_new}
use Rattle.irp_manager.proofs.Fresh.{stands_new}
use Rattle.irp_manager.proofs.manager_state.ManagerState.allocate.Goals as goal

pub returns-in-Some-clause-stepped : goal.returns-in-Some-clause-stepped
returns-in-Some-clause-stepped g c tables drained stands =
    let state : StateValue = state_of g.K.Keep.live c.args.self.now in
    let reply : Reply = Refused c.in-Some.refusal in
    record {
      step = λ fixed same agrees.
          subst (λ (given : Option Refusal). MatchOption given (Effect fixed state (Allocate c.args.size) [] reply state) (λ refusal. Unasked [] reply state (Refused refusal) state))
          (sym c.in-Some.is ∙ c.allocate_refusal.ensures.refusal fixed drained agrees) (refl, refl, refl);
      stands = stands;
      fixed = (refl, refl);
    }

pub returns-clause-stepped : goal.returns-clause-stepped
returns-clause-stepped g c tables drained stands =
    let state : StateValue = state_of g.K.Keep.live c.args.self.now in
    let size : ℕ = c.args.size in
    let slot : ℕ = c.in_ok-slot.slot in
    let number : ℕ = c.args.self.now.next_use in
    let fits = c.allocate_refusal.ensures.fits c.in_default.is in
    let vacant : fin.get state.live slot ≡ None = c.in_ok-slot.ensures.vacant in
    let put : g.K.Keep.live c.insert.new.self ≡ fin.insert state.live slot (record { packet = new_packet size; use_no = number }) =
    c.in_ok-slot.ensures.put in
    let new : StateValue = record state { live = g.K.Keep.live c.insert.new.self; next_use = number + 1 } in
    let is : new ≡ with_new_packet state slot (new_packet size) = λ i. record state { live = put i; next_use = number + 1 } in
    let reply : Reply = Irp (record { slot = slot; use_no = number }) in
    record {
      step = λ fixed same agrees.
          subst (λ (given : Option Refusal). MatchOption given (Effect fixed state (Allocate size) [] reply new) (λ refusal. Unasked [] reply new (Refused refusal) state))
          (sym c.in_default.is ∙ c.allocate_refusal.ensures.refusal fixed drained agrees) (slot, vacant, (refl, refl, is));
      stands = subst (StandingFacts tables.counts) (sym is) (stands_new tables.counts state slot (new_packet size) (sound_new tables.counts size fits.0 fits.1) stands);
      fixed = (refl, refl);
    }
