use Rattle.irp_machine.proofs.Histories.{replays_end}
use Rattle.irp_machine.proofs.order_laws.replays_end_so.Goals as goal

pub returns : goal.returns
returns c = replays_end
