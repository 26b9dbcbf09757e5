use Rattle.irp_types.proofs.Lent.{stand_with_more}
use Rattle.irp_types.proofs.history_laws.standing_facts_stay.Goals as goal

pub returns : goal.returns
returns c = stand_with_more
