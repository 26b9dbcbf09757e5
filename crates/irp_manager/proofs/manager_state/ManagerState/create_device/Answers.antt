use Rattle.std.proofs.Common.{◌≡◌, [], length, Option, MatchOption, refl, sym, ◌∙◌, ap, subst}
use Rattle.irp_types.specs.Checks.{first_failing, or_else}
use Rattle.irp_types.specs.Stacks.{create_checks}
use Rattle.irp_types.specs.State.{StateValue, Tables}
use Rattle.irp_types.specs.Steps.{Unasked, Effect}
use Rattle.irp_types.specs.declared.call.Call.TheVariants.{CreateDevice}
use Rattle.irp_types.specs.declared.refusal.Refusal.{Refusal}
use Rattle.irp_types.specs.declared.refusal.Refusal.TheVariants.{Full}
use Rattle.irp_types.specs.declared.reply.Reply.{Reply}
use Rattle.irp_types.specs.declared.reply.Reply.TheVariants.{Refused, Device}
use Rattle.irp_types.specs.Standing.{StandingFacts}
use Rattle.irp_manager.specs.ManagerStates.{state_of}
use Rattle.irp_manager.proofs.Fresh.{stands_devices}
use Rattle.irp_manager.proofs.manager_state.ManagerState.create_device.Goals as goal

pub returns-in-Some-clause-stepped : goal.returns-in-Some-clause-stepped
returns-in-Some-clause-stepped g c tables drained drivers stands =
    let state : StateValue = state_of g.K.Keep.live c.args.self.now in
    let reply : Reply = Refused c.in-Some.refusal in
    record {
      step = λ fixed same agrees.
          let count = ap (λ (given : Tables). length given.drivers) same ∙ drivers in
          let checks = first_failing (create_checks state.devices) in
          subst (λ (given : Option Refusal). MatchOption given (Effect fixed state (CreateDevice c.args.driver c.args.lock) [] reply state) (λ refusal. Unasked [] reply state (Refused refusal) state))
          (sym (c.create_refusal.ensures fixed drained count agrees ∙ ap (λ given. or_else given checks) c.in-Some.is)) (refl, refl, refl);
      stands = stands;
      fixed = (refl, refl);
    }

pub returns-in-Ok-clause-stepped : goal.returns-in-Ok-clause-stepped
returns-in-Ok-clause-stepped g c tables drained drivers stands =
    let state : StateValue = state_of g.K.Keep.live c.args.self.now in
    let created = c.in-Ok.ensures.created in
    let new : StateValue = record state { devices = c.create.new.self.devices } in
    let reply : Reply = Device c.in-Ok.device in
    let answered : reply ≡ Device (record { 0 = length state.devices.facts }) = λ i. Device (record { 0 = created.0 i }) in
    record {
      step = λ fixed same agrees.
          let count = ap (λ (given : Tables). length given.drivers) same ∙ drivers in
          let checks = first_failing (create_checks state.devices) in
          subst (λ (given : Option Refusal). MatchOption given (Effect fixed state (CreateDevice c.args.driver c.args.lock) [] reply new) (λ refusal. Unasked [] reply new (Refused refusal) state))
          (sym (c.create_refusal.ensures fixed drained count agrees ∙ ap (λ given. or_else given checks) c.in_default.is ∙ created.1))
          (refl, answered, λ i. record state { devices = (created.2 i).devices });
      stands = stands_devices tables.counts state c.create.new.self.devices c.are_stacks.ensures stands;
      fixed = (refl, ap (λ stacks. stacks.limit) created.2);
    }

pub returns-in-Full-clause-stepped : goal.returns-in-Full-clause-stepped
returns-in-Full-clause-stepped g c tables drained drivers stands =
    let state : StateValue = state_of g.K.Keep.live c.args.self.now in
    let kept = c.in-Err.ensures.refused in
    let full = c.in-Err.ensures.full.0 c.in-Full.is in
    let new : StateValue = record state { devices = c.create.new.self.devices } in
    let same_state : new ≡ state = λ i. record state { devices = (kept i).devices } in
    let reply : Reply = Refused Full in
    record {
      step = λ fixed same agrees.
          let count = ap (λ (given : Tables). length given.drivers) same ∙ drivers in
          let checks = first_failing (create_checks state.devices) in
          subst (λ (given : Option Refusal). MatchOption given (Effect fixed state (CreateDevice c.args.driver c.args.lock) [] reply new) (λ refusal. Unasked [] reply new (Refused refusal) state))
          (sym (c.create_refusal.ensures fixed drained count agrees ∙ ap (λ given. or_else given checks) c.in_default.is ∙ full))
          (refl, refl, same_state);
      stands = subst (StandingFacts tables.counts) (sym same_state) stands;
      fixed = (refl, ap (λ stacks. stacks.limit) kept);
    }
