use Rattle.irp_slots.proofs.Lawful.{empty_law}
use Rattle.irp_slots.proofs.slot_laws.empty_once_asked.Goals as goal

pub returns : goal.returns
returns c = empty_law
