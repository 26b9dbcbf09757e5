use Rattle.std.proofs.Common.{◌≡◌, [], None, Option, MatchOption, refl, sym, ◌∙◌, ap, subst}
use Rattle.irp_types.specs.Checks.{first_failing, value_unless}
use Rattle.irp_types.specs.Stacks.{delete_checks, after_delete}
use Rattle.irp_types.specs.State.{StateValue}
use Rattle.irp_types.specs.Steps.{Unasked, Effect}
use Rattle.irp_types.specs.declared.call.Call.TheVariants.{Delete}
use Rattle.irp_types.specs.declared.refusal.Refusal.{Refusal}
use Rattle.irp_types.specs.declared.reply.Reply.{Reply}
use Rattle.irp_types.specs.declared.reply.Reply.TheVariants.{Done, Refused}
use Rattle.irp_manager.specs.ManagerStates.{state_of, fixed_with}
use Rattle.irp_manager.proofs.Fresh.{stands_devices}
use Rattle.irp_manager.proofs.Turns.{deletable}
use Rattle.irp_manager.proofs.manager_state.ManagerState.delete.Goals as goal

pub returns-in-Some-clause-stepped : goal.returns-in-Some-clause-stepped
returns-in-Some-clause-stepped g c tables stands =
    let state : StateValue = state_of g.K.Keep.live c.args.self.now in
    let reply : Reply = Refused c.in-Some.refusal in
    record {
      step = λ fixed same agrees.
          subst (λ (given : Option Refusal). MatchOption given (Effect fixed state (Delete c.args.device) [] reply state) (λ refusal. Unasked [] reply state (Refused refusal) state))
          (sym c.in-Some.is ∙ c.delete_refusal.ensures fixed) (refl, refl, refl);
      stands = stands;
      fixed = (refl, refl);
    }

pub returns-clause-stepped : goal.returns-clause-stepped
returns-clause-stepped g c tables stands =
    let state : StateValue = state_of g.K.Keep.live c.args.self.now in
    let device = c.args.device.0 in
    let new : StateValue = record state { devices = c.delete-deleted.new.self.devices } in
    let checked : first_failing (delete_checks state.devices device) ≡ None = deletable state c.args.drained device (sym (c.delete_refusal.ensures (fixed_with c.args.self.now tables)) ∙ c.in_default.is) in
    let gone : c.delete-deleted.new.self.devices ≡ after_delete state.devices device =
    c.delete-deleted.ensures.changed ∙ ap (λ (given : Option Refusal). value_unless given state.devices (after_delete state.devices device)) checked in
    record {
      step = λ fixed same agrees.
          subst (λ (given : Option Refusal). MatchOption given (Effect fixed state (Delete c.args.device) [] Done new) (λ refusal. Unasked [] Done new (Refused refusal) state))
          (sym c.in_default.is ∙ c.delete_refusal.ensures fixed) (refl, refl, λ i. record state { devices = gone i });
      stands = stands_devices tables.counts state c.delete-deleted.new.self.devices c.are_stacks.ensures stands;
      fixed = (refl, c.delete-deleted.ensures.limit);
    }
