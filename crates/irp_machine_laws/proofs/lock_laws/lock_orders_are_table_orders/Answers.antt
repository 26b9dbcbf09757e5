use Rattle.irp_machine_laws.proofs.LockOpening.{lock_order_law}
use Rattle.irp_machine_laws.proofs.lock_laws.lock_orders_are_table_orders.Goals as goal

pub returns : goal.returns
returns c = lock_order_law
