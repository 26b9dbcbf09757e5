-- Which seats belong to which locks.
use Rattle.std.specs.Prelude.{◌≡◌, ℕ}
use Rattle.irp_remove.specs.declared.table.Locks.{Locks}
use Rattle.irp_remove.specs.Seats.{Holder}

-- how many locks there are
abbrev pub lock_count : Locks → ℕ
lock_count locks = locks.table.shared.table_id.words

-- the seat was opened with these locks
abbrev pub IsSeatOf : Locks → Holder → Type 0
IsSeatOf locks holder = holder.table ≡ locks.table.shared.table_id
