use Rattle.irp_machine_laws.proofs.Conditions.{hold_alike}
use Rattle.irp_machine_laws.proofs.condition_laws.conditions_hold_alike.Goals as goal

pub returns : goal.returns
returns c = hold_alike
