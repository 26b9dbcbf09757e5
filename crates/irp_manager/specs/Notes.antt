-- What a note knows of locks.
use Rattle.std.specs.Prelude.{Bool, false, Option, Some, None}
use Rattle.irp_types.specs.declared.names.LockNo.{LockNo}

-- what a note answers for a lock; false where there is none
abbrev pub known_by : (LockNo → Bool) → Option LockNo → Bool
known_by knows None = false
known_by knows (Some lock) = knows lock
