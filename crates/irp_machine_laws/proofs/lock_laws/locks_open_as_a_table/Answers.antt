use Rattle.irp_machine_laws.proofs.LockOpening.{lock_opening_law}
use Rattle.irp_machine_laws.proofs.lock_laws.locks_open_as_a_table.Goals as goal

pub returns : goal.returns
returns c = lock_opening_law
