use Rattle.irp_types.proofs.LongerHistories.{history_goes_on}
use Rattle.irp_types.proofs.history_laws.history_goes_on.Goals as goal

pub returns : goal.returns
returns c = history_goes_on
