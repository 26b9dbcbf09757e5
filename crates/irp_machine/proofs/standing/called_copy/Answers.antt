use Rattle.std.proofs.Common.{rules, ◌≡◌, List, Option, ap, sym, subst, ◌∙◌}
use Rattle.irp_types.specs.State.{LivePacket}
use Rattle.irp_types.specs.Standing.{StandingFacts}
use Rattle.irp_transcript.specs.Headers.{fixed_of}
use Rattle.irp_manager.specs.ManagerStates.{state_of}
use Rattle.irp_manager.specs.Slots.{live_of}
use Rattle.irp_manager.specs.declared.manager_state.ManagerState.{ManagerState}
use Rattle.irp_machine.specs.Standings.{terms_of}
use Rattle.irp_machine.specs.declared.terms.Terms.{Terms}
use Rattle.irp_machine.proofs.standing.called_copy.Goals as goal

pub call-requires-clause-stands : goal.call-requires-clause-stands
call-requires-clause-stands g c =
    let terms : c.args.terms ≡ terms_of (fixed_of c.args.asker.now.header.now) = c.are_told.ensures (search rules) in
    subst (λ (manager : ManagerState (List (Option LivePacket))). StandingFacts c.args.asker.now.header.now.completions (state_of live_of manager))
    (sym c.in_ok-copy.ensures)
    (subst (λ (terms : Terms). StandingFacts terms.counts (state_of live_of c.args.manager.now)) terms c.requires.facts)

pub returns-clause-stands : goal.returns-clause-stands
returns-clause-stands g c =
    let terms : c.args.terms ≡ terms_of (fixed_of c.args.asker.now.header.now) = c.are_told.ensures (search rules) in
    record {
      facts = subst (λ (terms : Terms). StandingFacts terms.counts (state_of live_of c.call.new.manager)) (sym terms) c.call.ensures.stands;
      locks = ap (λ (terms : Terms). terms.locks) terms ∙ c.call.ensures.agrees.0;
      limit = ap (λ (terms : Terms). terms.limit) terms ∙ c.call.ensures.agrees.1;
    }
