use Rattle.irp_slots.proofs.Lawful.{rest_law}
use Rattle.irp_slots.proofs.slot_laws.resting_is_empty.Goals as goal

pub returns : goal.returns
returns c = rest_law
