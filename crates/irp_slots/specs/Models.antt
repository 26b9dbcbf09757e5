-- What clauses read of an owner and of a canceller.
use Rattle.std.specs.Prelude.{◌≡◌, ℕ, ◌+◌, ◌*◌, ◌<◌, Bool, false, [], length}
use Rattle.irp_types.specs.Limits.{most_slots}
use Rattle.atomic_table.specs.Seated.{TableId}
use Rattle.atomic_table.specs.declared.shared.Seat.{Seat}
use Rattle.irp_slots.specs.declared.views.Owning.{Owning}
use Rattle.irp_slots.specs.declared.views.Asking.{Asking}
use Rattle.irp_slots.specs.declared.views.View.{View}
use Rattle.irp_slots.specs.declared.views.View.TheVariants.{Owner, Canceller}
use Rattle.irp_slots.specs.Core.{is_begun, is_standing, is_done, owning_of, asking_of}

-- an owner to a caller: its table of words, and what it knows
pub record Publisher : Type 0 where
  pub table : TableId
  pub owning : Owning

-- a canceller to a caller: its table of words, and what it knows
pub record Asker : Type 0 where
  pub table : TableId
  pub asking : Asking

-- what an owner has beside its party agrees with the party's view, which has taken nothing before it is done
pub record IsOwner (seat : Seat (Unit {0}) View) (slot : ℕ) (used stands : Bool) : Type 0 where
  pub owns : seat.me.0 ≡ Owner (owning_of seat.me.0)
  pub slot_is : (owning_of seat.me.0).slot ≡ slot
  pub used_is : used ≡ is_begun (owning_of seat.me.0).stage
  pub stands_is : stands ≡ is_standing (owning_of seat.me.0).stage
  pub unspent : is_done (owning_of seat.me.0).stage ≡ false → (owning_of seat.me.0).taken ≡ []
  pub inside : (2 * slot + 1 < seat.table_id.words) × (slot < most_slots)

-- a canceller has a flag for each slot that there may be
pub record IsAsker (seat : Seat (Unit {0}) View) : Type 0 where
  pub asks : seat.me.0 ≡ Canceller (asking_of seat.me.0)
  pub flags : (length (asking_of seat.me.0).flagged ≡ most_slots) × (length (asking_of seat.me.0).ended ≡ most_slots)
