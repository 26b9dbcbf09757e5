use Rattle.irp_types.proofs.SettledStates.{history_settles_states}
use Rattle.irp_types.proofs.history_laws.history_settles_states.Goals as goal

pub returns : goal.returns
returns c = history_settles_states
