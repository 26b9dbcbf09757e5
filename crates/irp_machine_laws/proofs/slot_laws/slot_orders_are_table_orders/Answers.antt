use Rattle.irp_machine_laws.proofs.SlotOpening.{slot_order_law}
use Rattle.irp_machine_laws.proofs.slot_laws.slot_orders_are_table_orders.Goals as goal

pub returns : goal.returns
returns c = slot_order_law
