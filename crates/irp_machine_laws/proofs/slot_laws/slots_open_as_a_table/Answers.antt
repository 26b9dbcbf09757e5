use Rattle.irp_machine_laws.proofs.SlotOpening.{slot_opening_law}
use Rattle.irp_machine_laws.proofs.slot_laws.slots_open_as_a_table.Goals as goal

pub returns : goal.returns
returns c = slot_opening_law
