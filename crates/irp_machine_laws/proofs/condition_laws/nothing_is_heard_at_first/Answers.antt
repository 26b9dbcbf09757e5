use Rattle.irp_machine_laws.proofs.Conditions.{nothing_heard}
use Rattle.irp_machine_laws.proofs.condition_laws.nothing_is_heard_at_first.Goals as goal

pub returns : goal.returns
returns c = nothing_heard
