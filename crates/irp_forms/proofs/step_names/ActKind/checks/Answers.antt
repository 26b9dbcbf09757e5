-- The row at the act's number has what the act has.
use Rattle.std.proofs.Common.{[], get_or, ap, ◌∙◌}
use Rattle.irp_forms.proofs.Acts.{number, checks_there}
use Rattle.irp_forms.proofs.step_names.ActKind.checks.Goals as goal

pub returns : goal.returns
returns c =
    c.row_at.ensures.checks ∙ ap (λ column. get_or column (number c.args.self) []) c.forms.ensures.checks ∙ checks_there c.args.self
