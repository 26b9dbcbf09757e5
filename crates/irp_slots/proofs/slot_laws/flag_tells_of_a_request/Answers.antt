use Rattle.irp_slots.proofs.Lawful.{flag_law}
use Rattle.irp_slots.proofs.slot_laws.flag_tells_of_a_request.Goals as goal

pub returns : goal.returns
returns c = flag_law
