use Rattle.irp_machine_laws.proofs.SlotLaw.{slot_step_law}
use Rattle.irp_machine_laws.proofs.slot_laws.each_slot_step_is_a_table_step.Goals as goal

pub returns : goal.returns
returns c = slot_step_law
