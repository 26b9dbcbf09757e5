use Rattle.irp_machine.proofs.Histories.{orders_recorded}
use Rattle.irp_machine.proofs.order_laws.orders_have_histories.Goals as goal

pub returns : goal.returns
returns c = orders_recorded c.history_goes_on.ensures
