use Rattle.std.proofs.Common.{◌∙◌, List, ap}
use Rattle.irp_script_reader.specs.declared.act.Step.{Step}
use Rattle.irp_script_reader.specs.declared.script.ScriptParts.{ScriptParts}
use Rattle.irp_orders.specs.Facts.{facts_of}
use Rattle.irp_orders.proofs.Telling.{such_told}
use Rattle.irp_orders.proofs.such.such.Goals as goal

pub returns-in-Some-scope_of-clause-some : goal.returns-in-Some-scope_of-clause-some
returns-in-Some-scope_of-clause-some c =
    let are =
    c.in_ok-facts.ensures
    ∙ ap (λ (steps : List Step). facts_of steps c.args.end.now)
    (c.as_slice.ensures ∙ ap (λ (script : ScriptParts). script.steps) c.parts.ensures.parts) in
    such_told c.args.script.now c.args.end.now c.in-Some-scope_of.scope c.in_ok-facts.facts c.said.result c.in-Some-scope_of.ensures.scope are
    c.said.ensures.some
