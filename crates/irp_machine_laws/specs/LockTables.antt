-- Which table of the remove locks a standing of the machine stands for.
use Rattle.std.specs.Prelude.{◌≡◌, ℕ, ◌+◌, ◌*◌, ◌<◌, ◌≤◌, ◌||◌, ◌&&◌, List, [], ◌∷◌, length}
use Rattle.std.specs.Prelude.{Option, Some, None, nat_eq}
use Rattle.std.specs.List.{list_any}
use Rattle.std.specs.Option.{option_map_or, option_and_then}
use mathlib.Core.Option.{Option as Found, some}
use lib.ListN.{get_elem?}
use Rattle.atomic_table.specs.Table.{State}
use Rattle.irp_types.specs.Limits.{most_locks, most_seats, most_held}
use Rattle.irp_types.specs.declared.seat_act.LockAct.TheVariants.{Acquire}
use Rattle.irp_script_reader.specs.declared.act.StepAct.{StepAct}
use Rattle.irp_script_reader.specs.declared.act.StepAct.TheVariants as does
use Rattle.irp_remove.specs.declared.views.Stage.{Stage as StakeStage}
use Rattle.irp_remove.specs.declared.views.Stage.TheVariants.{Idle, Trying, Held}
use Rattle.irp_remove.specs.declared.views.Watch.{Watch}
use Rattle.irp_remove.specs.declared.views.View.{View}
use Rattle.irp_remove.specs.declared.views.View.TheVariants.{First, Observer, Stake}
use Rattle.irp_remove.specs.declared.views.Parties.{Parties}
use Rattle.irp_remove.specs.Core.{Kept, total, flag}
use Rattle.irp_plain.specs.declared.parts.Held.{Held as Reference}
use Rattle.irp_machine.specs.Conditions.{act_now}
use Rattle.irp_machine.specs.declared.parts.Planned.{Planned}
use Rattle.irp_plain.specs.declared.parts.Stage.{Stage}
use Rattle.irp_plain.specs.declared.parts.Stage.TheVariants as stages
use Rattle.irp_machine.specs.Machine.{RulesValue, seat_at}
use Rattle.irp_plain.specs.Seats.{SeatValue, is_held, is_removed, is_drained}
use Rattle.irp_machine.specs.Standings.{StandingValue}
use Rattle.irp_machine_laws.specs.Seats.{one_if, over_seats}

-- a table of remove locks
abbrev pub LockTable : Type 0
LockTable = State (Unit {0}) View

-- ---- what the stakes of a table say

-- 1 where the stage is to hold the lock under the tag
abbrev pub holding_at : ℕ → ℕ → StakeStage → ℕ
holding_at lock tag Idle = 0
holding_at lock tag (Trying tried) = 0
holding_at lock tag (Held taken under) = one_if (nat_eq taken lock && nat_eq under tag)

-- 1 where the stage is to try the lock
abbrev pub trying_at : ℕ → StakeStage → ℕ
trying_at lock Idle = 0
trying_at lock (Trying tried) = one_if (nat_eq tried lock)
trying_at lock (Held taken under) = 0

-- 1 where the stage is not to be idle
abbrev pub busy_at : StakeStage → ℕ
busy_at Idle = 0
busy_at (Trying tried) = 1
busy_at (Held taken under) = 1

-- what the stage of a stake gives; another party gives nothing
abbrev pub of_stake : (StakeStage → ℕ) → View → ℕ
of_stake measure (First observers_left stakes_left) = 0
of_stake measure (Observer watch) = 0
of_stake measure (Stake stage seen) = measure stage

-- 1 at each stage
abbrev pub one_each : StakeStage → ℕ
one_each stage = 1

-- how many stakes hold the lock under the tag
abbrev pub holding : ℕ → ℕ → List View → ℕ
holding lock tag views = total (of_stake (holding_at lock tag)) views

-- how many stakes try the lock
abbrev pub trying : ℕ → List View → ℕ
trying lock views = total (of_stake (trying_at lock)) views

-- how many stakes are not idle
abbrev pub busy : List View → ℕ
busy views = total (of_stake busy_at) views

-- ---- what the seats of a machine say

-- how many of these references are to the lock under the tag
abbrev pub references : ℕ → ℕ → List Reference → ℕ
references lock tag [] = 0
references lock tag (held ∷ rest) = one_if (is_held lock tag held) + references lock tag rest

-- how many references of a seat are to the lock under the tag
abbrev pub holds : ℕ → ℕ → List Planned → SeatValue → ℕ
holds lock tag acts seat = references lock tag seat.held

-- the lock that an act acquires
abbrev pub acquired_by : StepAct → Option ℕ
acquired_by (does.OnLock (Acquire lock tag)) = Some lock.0
acquired_by other = None

-- the lock that a seat tries at this stage of its act: it has added to its word, and has to take that back
abbrev pub tried_at : Stage → Option Planned → Option ℕ
tried_at stages.Tried act = option_and_then (λ (planned : Planned). acquired_by planned.act) act
tried_at other act = None

-- the lock that a seat with these acts tries
abbrev pub tried : List Planned → SeatValue → Option ℕ
tried acts seat = tried_at seat.stage (act_now acts seat)

-- 1 where the seat tries the lock
abbrev pub tries : ℕ → List Planned → SeatValue → ℕ
tries lock acts seat = option_map_or (λ one. one_if (nat_eq one lock)) (tried acts seat) 0

-- how many stakes a seat keeps busy: one for each reference that it holds, and one where it tries a lock
abbrev pub keeps_busy : List Planned → SeatValue → ℕ
keeps_busy acts seat = length seat.held + option_map_or (λ one. 1) (tried acts seat) 0

-- ---- the two together

-- what a seat has learned of locks is what its observer knows
pub record IsLearned (locks : ℕ) (seat : SeatValue) (watch : Watch) : Type 0 where
  pub removed : (lock : ℕ) → lock < locks
      → list_any (is_removed lock) seat.learned ≡ (flag watch.began lock || flag watch.saw lock)
  pub drained : (lock : ℕ) → lock < locks → list_any (is_drained lock) seat.learned ≡ flag watch.drained lock
  pub began_flags : length watch.began ≡ most_locks
  pub saw_flags : length watch.saw ≡ most_locks
  pub drained_flags : length watch.drained ≡ most_locks

-- a party is the observer of a seat
abbrev pub Observes : ℕ → SeatValue → Found View → Type 0
Observes locks seat view = (watch : Watch) × (view ≡ some (Observer watch)) × IsLearned locks seat watch

-- A table stands for where a script stands: it keeps the rule, its words are those of the machine, the party of each
-- seat's number is the seat's observer, and its stakes hold and try what the seats hold and try. There are as many
-- stakes as there may be, so that each seat that may acquire finds one idle: a seat that tries a lock may be handed its
-- 64th reference then, and so keep 65 stakes busy, which 63 seats may do
pub record StandsFor (rules : RulesValue) (standing : StandingValue) (key : Parties) (table : LockTable) : Type 0 where
  pub kept : Kept key table
  pub words : table.words ≡ standing.words
  pub homes : table.homes ≡ []
  pub observers : (seat : ℕ) → seat < length standing.seats
      → Observes key.locks (seat_at standing seat) (get_elem? table.views seat)
  pub held_is : (lock tag : ℕ) → holding lock tag table.views ≡ over_seats (holds lock tag) rules.acts standing.seats
  pub tried_is : (lock : ℕ) → trying lock table.views ≡ over_seats (tries lock) rules.acts standing.seats
  pub busy_is : busy table.views ≡ over_seats keeps_busy rules.acts standing.seats
  pub inside : (lock : ℕ) → 0 < trying lock table.views → lock < key.locks
  pub few_held : (seat : ℕ) → length (seat_at standing seat).held ≤ most_held
  pub few_locks : key.locks ≤ most_locks
  pub few_seats : length standing.seats < most_seats
  pub all_made : total (of_stake one_each) table.views ≡ most_seats * most_held
