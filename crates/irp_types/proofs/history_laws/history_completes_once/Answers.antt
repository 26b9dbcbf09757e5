use Rattle.irp_types.proofs.CompletesOnce.{completes_once, legal_completes_once}
use Rattle.irp_types.proofs.history_laws.history_completes_once.Goals as goal

pub returns-clause-each : goal.returns-clause-each
returns-clause-each c = completes_once

pub returns-clause-legal : goal.returns-clause-legal
returns-clause-legal c = legal_completes_once
