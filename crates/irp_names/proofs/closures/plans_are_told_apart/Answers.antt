use Rattle.irp_names.proofs.PlansApart.{plans_apart}
use Rattle.irp_names.proofs.closures.plans_are_told_apart.Goals as goal

pub returns : goal.returns
returns c = plans_apart
