-- The two seats of a script's seat.
use Rattle.std.specs.Prelude.{ℕ}
use Rattle.atomic_table.specs.Seated.{TableId}
use Rattle.irp_manager.specs.Seats.{Seated}
use Rattle.irp_remove.specs.Seats.{Holder}

-- which two seats they are: the number of the one that makes calls, and the locks and the number of the remove seat
pub record Pair : Type 0 where
  pub seat : ℕ
  pub table : TableId
  pub remove : ℕ

abbrev pub pair_of : Seated → Holder → Pair
pair_of seat remove = record { seat = seat.number; table = remove.table; remove = remove.number }
