use Rattle.irp_machine_laws.proofs.LockLaw.{lock_step_law}
use Rattle.irp_machine_laws.proofs.lock_laws.each_lock_step_is_a_table_step.Goals as goal

pub returns : goal.returns
returns c = lock_step_law
