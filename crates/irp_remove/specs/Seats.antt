-- What a clause reads of a remove seat.
use Rattle.std.specs.Prelude.{◌≡◌, ℕ, ◌+◌, ◌<◌, Bool, List, [], ◌∷◌, map, length, All, Option, Some, None}
use Rattle.irp_types.specs.Limits.{most_locks, most_held}
use Rattle.atomic_table.specs.Seated.{TableId}
use Rattle.atomic_table.specs.declared.shared.Seat.{Seat}
use Rattle.irp_remove.specs.declared.views.Stage.TheVariants.{Idle, Trying, Held}
use Rattle.irp_remove.specs.declared.views.Watch.{Watch}
use Rattle.irp_remove.specs.declared.views.View.{View}
use Rattle.irp_remove.specs.declared.views.View.TheVariants.{First, Observer, Stake}
use Rattle.irp_remove.specs.Core.{new_watch, new_stake}
use Rattle.irp_remove.specs.declared.reference.Reference.{Reference}

-- What a remove seat is to a caller: its table of words, its number, what its observer knows, the (lock, tag) of each
-- reference that it holds, the views of the stakes that hold these, in the same order, and the views of its other
-- stakes
pub record Holder : Type 0 where
  pub table : TableId
  pub number : ℕ
  pub watch : Watch
  pub held : List (ℕ × ℕ)
  pub held_views : List View
  pub idle_views : List View

-- a holder of its parts
abbrev pub holder : TableId → ℕ → Watch → List (ℕ × ℕ) → List View → List View → Holder
holder table number watch held held_views idle_views =
    record { table = table; number = number; watch = watch; held = held; held_views = held_views; idle_views = idle_views }

-- what an observer with this view knows
abbrev pub watch_of : View → Watch
watch_of (First observers_left stakes_left) = new_watch
watch_of (Observer watch) = watch
watch_of (Stake stage seen) = new_watch

-- the first of some views. Where there is none it is no view of a stake, so that a blank reference is not taken for an
-- idle one
abbrev pub first_view : List View → View
first_view [] = First 0 0
first_view (view ∷ views) = view

-- the lock and the tag of a reference
abbrev pub pair_of : Reference → ℕ × ℕ
pair_of reference = (reference.lock, reference.tag)

-- the view of a reference's stake
abbrev pub view_of : Reference → View
view_of reference = first_view reference.stake.views

-- the stake of the reference is a party of this table, and idle
abbrev pub IsIdle : TableId → Reference → Type 0
IsIdle table reference =
    (reference.stake.table_id ≡ table) × ((seen : List ℕ) × (reference.stake.views ≡ Stake Idle seen ∷ []))

-- the stake of the reference is a party of this table, and holds its lock under its tag
abbrev pub IsHeld : TableId → Reference → Type 0
IsHeld table reference =
    (reference.stake.table_id ≡ table) × (reference.lock < table.words)
    × ((seen : List ℕ) × (reference.stake.views ≡ Stake (Held reference.lock reference.tag) seen ∷ []))

-- the observer's view is what the flags say, each idle stake is idle, and each other one holds its lock under its tag
pub record IsSeated (observer : Seat (Unit {0}) View) (idle held : List Reference)
    (began saw drained : List Bool) : Type 0 where
  pub observes : observer.me.0 ≡ Observer (watch_of observer.me.0)
  pub began_is : (watch_of observer.me.0).began ≡ began
  pub saw_is : (watch_of observer.me.0).saw ≡ saw
  pub drained_is : (watch_of observer.me.0).drained ≡ drained
  pub all_idle : All (IsIdle observer.table_id) idle
  pub all_held : All (IsHeld observer.table_id) held
  pub all_there : length idle + length held ≡ most_held
  pub flags : (length began ≡ most_locks) × (length saw ≡ most_locks) × (length drained ≡ most_locks)

-- a stake as it is made
abbrev pub IsNew : TableId → Reference → Type 0
IsNew table reference = (reference.stake.table_id ≡ table) × (reference.stake.views ≡ new_stake ∷ [])

-- what a stake with this view holds
abbrev pub held_in : View → Option (ℕ × ℕ)
held_in (First observers_left stakes_left) = None
held_in (Observer watch) = None
held_in (Stake Idle seen) = None
held_in (Stake (Trying lock) seen) = None
held_in (Stake (Held lock tag) seen) = Some (lock, tag)

-- the view is that of an idle stake
abbrev pub IsIdleView : View → Type 0
IsIdleView view = (seen : List ℕ) × (view ≡ Stake Idle seen)

-- each reference is a stake that holds that lock under that tag, the other stakes are idle, and there is one for each
-- reference that a seat may hold
abbrev pub IsWhole : Holder → Type 0
IsWhole holder =
    (map held_in holder.held_views ≡ map Some holder.held) × All IsIdleView holder.idle_views
    × (length holder.held + length holder.idle_views ≡ most_held)
