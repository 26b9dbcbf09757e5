use Rattle.irp_machine_laws.proofs.LockReach.{lock_reach_law}
use Rattle.irp_machine_laws.proofs.lock_laws.known_drained_is_held_by_nobody.Goals as goal

pub returns : goal.returns
returns c = lock_reach_law
