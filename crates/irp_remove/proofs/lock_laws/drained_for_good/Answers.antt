use Rattle.irp_remove.proofs.Lawful.{drained_law}
use Rattle.irp_remove.proofs.lock_laws.drained_for_good.Goals as goal

pub returns : goal.returns
returns c = drained_law
