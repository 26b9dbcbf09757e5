use Rattle.std.proofs.Common.{◌≡◌, [], List, sym, ap, subst}
use Rattle.irp_types.specs.Histories.{LeadsTo}
use Rattle.irp_types.specs.State.{StateValue, opening_state}
use Rattle.irp_types.specs.declared.entry.Entry.{Entry}
use Rattle.irp_transcript.specs.Headers.{fixed_of}
use Rattle.irp_manager.proofs.Recording.{leads_none}
use Rattle.irp_machine.specs.Machine.{RulesValue}
use Rattle.irp_machine.specs.Standings.{StandingValue}
use Rattle.irp_machine.proofs.running.Run.new.Goals as goal

pub invariant_of-result : goal.invariant_of-result
invariant_of-result c =
    let fixed = c.in_ok-machine_of.field-0.fixed in
    let is : fixed ≡ fixed_of c.args.header.now = ap (λ (rules : RulesValue). rules.fixed) c.in_ok-machine_of.ensures.machine in
    let state = c.in_ok-first_standing.field-0.manager.state in
    let opens : state ≡ opening_state = ap (λ (standing : StandingValue). standing.manager.state) c.in_ok-first_standing.ensures in
    let leads = subst (λ (state : StateValue). LeadsTo fixed [] state) (sym opens) (leads_none fixed) in
    (c.requires.headed, c.requires.sound, is, subst (λ (entries : List Entry). LeadsTo fixed entries state) (sym c.new.ensures.items) leads)
