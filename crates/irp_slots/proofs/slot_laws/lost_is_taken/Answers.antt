use Rattle.irp_slots.proofs.Lawful.{lost_law}
use Rattle.irp_slots.proofs.slot_laws.lost_is_taken.Goals as goal

pub returns : goal.returns
returns c = lost_law
