use Rattle.std.proofs.Common.{◌≡◌, drop, map}
use Rattle.irp_forms.specs.Steps.{under}
use Rattle.irp_forms.proofs.step_names.act_among.Given as goal

abbrev pub invariant-loop-form : goal.invariant-loop-form
invariant-loop-form l =
    under l.word (map (λ row. (row.1.now, row.0)) l.forms) ≡ under l.word (map (λ row. (row.1.now, row.0)) (drop l.form-index l.forms))
