use Rattle.irp_machine.proofs.RunsSettled.{runs_settled}
use Rattle.irp_machine.proofs.order_laws.runs_are_settled.Goals as goal

pub returns : goal.returns
returns c = runs_settled
