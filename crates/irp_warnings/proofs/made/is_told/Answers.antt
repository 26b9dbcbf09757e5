use Rattle.std.proofs.Common.{◌∙◌}
use Rattle.irp_warnings.proofs.Ordered.{told_of_warnings}
use Rattle.irp_warnings.proofs.made.is_told.Goals as goal

pub returns : goal.returns
returns c = c.any_tells.ensures ∙ told_of_warnings c.args.label c.args.told.now
