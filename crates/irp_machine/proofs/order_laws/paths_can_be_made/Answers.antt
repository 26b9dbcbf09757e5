use Rattle.irp_machine.proofs.Remade.{paths_made}
use Rattle.irp_machine.proofs.order_laws.paths_can_be_made.Goals as goal

pub returns : goal.returns
returns c = paths_made
