use Rattle.std.proofs.Common.{◌≡◌, ◌∙◌, true, List, ℕ, ap, subst, sym}
use Rattle.std.proofs.lemmas.Result.{err_from_is_err_and}
use Rattle.irp_script_reader.specs.declared.act.Step.{Step}
use Rattle.irp_plain.specs.declared.answered.Told.{Told}
use Rattle.irp_machine.specs.Answering.{IsToldAlong, IsToldOf}
use Rattle.irp_machine.specs.Machine.{RulesValue}
use Rattle.irp_machine.specs.Openings.{IsStuck, rules_of}
use Rattle.irp_machine.proofs.answering.told_behind.Goals as goal

pub returns-in_err-told-clause-no_step : goal.returns-in_err-told-clause-no_step
returns-in_err-told-clause-no_step c =
    let header = c.args.header.now in
    let script = c.args.script.now in
    let rules : c.in_ok-machine.machine ≡ rules_of header script script.steps script.steps true =
    c.in_ok-machine.ensures.machine ∙ ap (λ (steps : List Step). rules_of header script steps steps true) c.as_slice-steps.ensures in
    let p = err_from_is_err_and c.from_residual-in_err-told.result c.from_residual-in_err-told.ensures.1 in
    rw p.1 (λ same.
    record {
      header = header;
      headed = c.requires.headed;
      start = c.in_ok-start.start;
      opens = c.in_ok-start.ensures;
      stuck =
          subst (λ (rules : RulesValue). IsStuck rules c.in_ok-start.start c.args.path.now) rules
          (c.in_err-told.ensures.no_step (sym p.2 ∙ same));
    })

pub returns-clause-told : goal.returns-clause-told
returns-clause-told c =
    let header = c.args.header.now in
    let script = c.args.script.now in
    let rules : c.in_ok-machine.machine ≡ rules_of header script script.steps script.steps true =
    c.in_ok-machine.ensures.machine ∙ ap (λ (steps : List Step). rules_of header script steps steps true) c.as_slice-steps.ensures in
    record {
      header = header;
      headed = c.requires.headed;
      start = c.in_ok-start.start;
      opens = c.in_ok-start.ensures;
      along = subst (λ (rules : RulesValue). IsToldAlong rules c.in_ok-start.start c.args.path.now c.in_ok-told.told.items) rules c.in_ok-told.ensures.told;
    }
