use Rattle.std.proofs.Common.{◌≡◌, refl, sym, ◌∙◌, subst, List, [], ◌∷◌, ◌==◌, not, Option, None, Bool, true, false, is_some, MatchOption}
use Rattle.std.specs.FinMap as fin
use Rattle.irp_types.specs.Standing.{StandingFacts}
use Rattle.irp_types.specs.Steps.{Unasked}
use Rattle.irp_types.specs.Checks.{Check, first_failing, or_else}
use Rattle.irp_types.specs.Refusals.{flight_check}
use Rattle.irp_types.specs.State.{StateValue, live_at, packet_at, packet_of}
use Rattle.irp_types.specs.declared.refusal.Refusal.{Refusal}
use Rattle.irp_types.specs.declared.reply.Reply.TheVariants.{Done, Refused}
use Rattle.irp_types.specs.declared.refusal.Refusal.TheVariants.{NoIrp, Stale}
use Rattle.irp_manager.specs.ManagerStates.{state_of}
use Rattle.irp_manager.proofs.Fresh.{stands_without}
use Rattle.irp_manager.proofs.manager_state.ManagerState.free.Goals as goal

-- where the first check passed, what it looks at is there
passed : (b : Bool) (others : List Check) (later : Option Refusal) → or_else (first_failing ((not b, NoIrp) ∷ others)) later ≡ None → b ≡ true
passed true others later none = refl
passed false others later none = cc

pub returns-clause-stepped : goal.returns-clause-stepped
returns-clause-stepped g c tables drained stands =
    let state : StateValue = state_of g.K.Keep.live c.args.self.now in
    let irp = c.args.irp in
    let new : StateValue = record state { live = g.K.Keep.live c.give_back.new.self } in
    let left : new ≡ record state { live = fin.remove state.live irp.slot } = λ i. record state { live = c.give_back.ensures.gone i } in
    record {
      step = λ fixed same agrees.
          subst (λ (given : Option Refusal). MatchOption given (Unasked [] Done new Done (record state { live = fin.remove state.live irp.slot })) (λ refusal. Unasked [] Done new (Refused refusal) state))
          (sym (sym c.flight_refusal.ensures ∙ c.in_default.is)) (refl, refl, left);
      stands = subst (StandingFacts tables.counts) (sym left) (stands_without tables.counts state irp.slot stands);
      fixed = (refl, refl);
    }

pub returns-clause-gave : goal.returns-clause-gave
returns-clause-gave g c done =
    let state : StateValue = state_of g.K.Keep.live c.args.self.now in
    let irp = c.args.irp in
    let was = passed (is_some (live_at state irp.slot)) ((not ((packet_at state irp.slot).use_no == irp.use_no), Stale) ∷ [])
    (first_failing (flight_check (packet_of state irp) ∷ [])) (sym c.flight_refusal.ensures ∙ c.in_default.is) in
    (was, c.give_back.ensures.gave)
