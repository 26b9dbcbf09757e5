use Rattle.irp_machine_laws.proofs.Conditions.{hear_alike}
use Rattle.irp_machine_laws.proofs.condition_laws.both_hear_alike.Goals as goal

pub returns : goal.returns
returns c = hear_alike
