use Rattle.irp_machine_laws.proofs.SlotReach.{slot_reach_law}
use Rattle.irp_machine_laws.proofs.slot_laws.slot_at_rest_is_empty.Goals as goal

pub returns : goal.returns
returns c = slot_reach_law
