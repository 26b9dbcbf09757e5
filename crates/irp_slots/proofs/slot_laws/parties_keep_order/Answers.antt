use Rattle.irp_slots.proofs.Lawful.{order_law}
use Rattle.irp_slots.proofs.slot_laws.parties_keep_order.Goals as goal

pub returns : goal.returns
returns c = order_law
