use Rattle.std.proofs.Common.{◌≡◌, ◌<◌, ◌^◌, [], false, List, length, sym, ap, ◌∙◌, subst}
use Rattle.irp_types.specs.State.{opening_state}
use Rattle.irp_types.specs.Histories.{LeadsTo}
use Rattle.irp_types.specs.declared.entry.Entry.{Entry}
use Rattle.irp_transcript.specs.Headers.{fixed_of}
use Rattle.irp_manager.proofs.Recording.{leads_none}
use Rattle.irp_script_reader.specs.declared.act.Step.{Step}
use Rattle.irp_machine.specs.Machine.{RulesValue}
use Rattle.irp_machine.specs.Openings.{rules_of, seats_of}
use Rattle.irp_machine.specs.Replays.{IsSetUp}
use Rattle.irp_machine.specs.Standings.{StandingValue}
use Rattle.irp_machine.proofs.Histories.{set_up}
use Rattle.irp_machine.proofs.Setup.{setup_goes_on}
use Rattle.irp_machine.proofs.replaying.play_setup.Goals as goal

pub play_all-requires : goal.play_all-requires
play_all-requires c =
    let fixed = fixed_of c.args.header.now in
    let none = subst (λ (entries : List Entry). LeadsTo fixed entries opening_state) (sym c.requires.none) (leads_none fixed) in
    let first = subst (λ (standing : StandingValue). LeadsTo fixed c.args.entries.now.items standing.manager.state) (sym c.in_ok-standing.ensures) none in
    subst (λ (rules : RulesValue). LeadsTo rules.fixed c.args.entries.now.items c.in_ok-standing.standing.manager.state) (sym c.in_ok-machine.ensures.machine) first

pub unreachable-requires : goal.unreachable-requires
unreachable-requires c =
    let header = c.args.header.now in
    let script = c.args.script.now in
    let machine = c.in_ok-machine.machine in
    let few = subst (λ (steps : List Step). length steps < 2 ^ 32) c.as_slice-setup.ensures c.in_ok-machine.ensures.few in
    let rules : machine ≡ rules_of header script [] script.setup false =
    c.in_ok-machine.ensures.machine ∙ ap (λ (steps : List Step). rules_of header script [] steps false) c.as_slice-setup.ensures in
    let path : c.as_slice.result.now ≡ seats_of script.setup = c.as_slice.ensures.value ∙ c.in_ok-seats.ensures ∙ ap (λ (steps : List Step). seats_of steps) c.as_slice-setup.ensures in
    setup_goes_on header script few c.requires.sound c.requires.headed machine c.in_ok-standing.standing c.as_slice.result.now
    rules c.in_ok-standing.ensures path (c.in-Err-NoStep.ensures.no_step c.in-Err-NoStep.field-0-is)

pub returns-in-Ok-clause-setup : goal.returns-in-Ok-clause-setup
returns-in-Ok-clause-setup c =
    let header = c.args.header.now in
    let script = c.args.script.now in
    let machine = c.in_ok-machine.machine in
    let ended = c.play_all.new.standing in
    let entries = c.play_all.new.entries.items in
    let start = c.in_ok-opened-in-Ok.opened in
    let rules : machine ≡ rules_of header script [] script.setup false =
    c.in_ok-machine.ensures.machine ∙ ap (λ (steps : List Step). rules_of header script [] steps false) c.as_slice-setup.ensures in
    let path : c.as_slice.result.now ≡ seats_of script.setup = c.as_slice.ensures.value ∙ c.in_ok-seats.ensures ∙ ap (λ (steps : List Step). seats_of steps) c.as_slice-setup.ensures in
    let setup : IsSetUp header script c.args.entries.now.items entries start =
    set_up header script machine c.in_ok-standing.standing ended start c.as_slice.result.now c.args.entries.now.items entries
    rules c.in_ok-standing.ensures path c.in-Ok.ensures.plays c.in_ok-opened-in-Ok.ensures in
    subst (λ (none : List Entry). IsSetUp header script none entries start) c.requires.none setup
