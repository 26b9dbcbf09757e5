use Rattle.irp_slots.proofs.Lawful.{once_law}
use Rattle.irp_slots.proofs.slot_laws.taken_once.Goals as goal

pub returns : goal.returns
returns c = once_law
