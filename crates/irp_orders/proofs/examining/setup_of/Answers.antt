use Rattle.irp_orders.proofs.Showing.{unmade_setup}
use Rattle.irp_orders.proofs.examining.setup_of.Goals as goal

pub returns-in-Err-clause-unmade : goal.returns-in-Err-clause-unmade
returns-in-Err-clause-unmade c =
    unmade_setup c.args.script.now c.from.result c.in-Err.refusal c.from.ensures c.in-Err.ensures.no_step
