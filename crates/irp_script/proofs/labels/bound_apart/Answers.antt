use Rattle.std.proofs.Common.{◌<◌, length, take, ap, sym, ◌∙◌, rules}
use Rattle.std.proofs.lemmas.List.{take_more}
use Rattle.irp_script.specs.Labels.{marked, marks_apart}
use Rattle.irp_script.proofs.Marking.{marks_more, marks_none}
use Rattle.irp_script.proofs.labels.bound_apart.Goals as goal

pub loop-step-init : goal.loop-step-init
loop-step-init c = (search rules) ∙ marks_none c.args.number c.args.workers c.args.count

pub loop-step-preserved : goal.loop-step-preserved
loop-step-preserved c =
    let steps = c.args.steps.now in
    let within : c.loop-step.step-index < length steps = search rules in
    c.mark.ensures ∙ ap (λ marks. marked marks c.label_apart.result) c.loop-step.invariant ∙ ap (marked _) c.label_apart.ensures
    ∙ marks_more c.args.number c.args.workers (take c.loop-step.step-index steps) _ c.args.count
    ∙ ap (λ some. marks_apart c.args.number c.args.workers some c.args.count) (sym (take_more steps c.loop-step.step-index _ within))
