use Rattle.std.proofs.Common.{rules}
use Rattle.irp_script.proofs.Working.{turn_makes, turn_passes, turn_skips}
use Rattle.irp_script.proofs.worker.Worker.turn.Goals as goal

pub pass-requires-clause-admits : goal.pass-requires-clause-admits
pass-requires-clause-admits g c = c.requires (search rules) (search rules)

pub returns-then-not-has-clause-turned : goal.returns-then-not-has-clause-turned
returns-then-not-has-clause-turned g c = turn_skips _ _ _ _ _ _ (search rules)

pub returns-then-not-holds-clause-turned : goal.returns-then-not-holds-clause-turned
returns-then-not-holds-clause-turned g c = turn_passes _ _ _ _ _ _ (search rules) (search rules)

pub returns-in-Ok-clause-turned : goal.returns-in-Ok-clause-turned
returns-in-Ok-clause-turned g c = turn_makes _ _ _ _ _ _ _ (search rules) (search rules) (search rules)
