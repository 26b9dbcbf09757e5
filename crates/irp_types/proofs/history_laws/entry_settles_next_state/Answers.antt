use Rattle.irp_types.proofs.SettledSteps.{entry_settles_next_state}
use Rattle.irp_types.proofs.history_laws.entry_settles_next_state.Goals as goal

pub returns : goal.returns
returns c = entry_settles_next_state
