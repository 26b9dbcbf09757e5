-- The machine's steps at remove locks are steps of the table of remove locks.
use Rattle.std.specs.Prelude.{◌≡◌, ℕ, ◌%◌, ◌<◌, ◌≤◌, Bool, true, List, [], ◌∷◌, length, slice_index_or, Some}
use Rattle.irp_types.specs.Limits.{most_locks, most_seats}
use Rattle.irp_types.specs.declared.names.IrpRef.{IrpRef}
use Rattle.irp_types.specs.declared.names.LockNo.{LockNo}
use Rattle.irp_transcript.specs.declared.header.Header.{Header}
use Rattle.irp_script_reader.specs.declared.act.Step.{Step}
use Rattle.irp_script_reader.specs.declared.script.ScriptParts.{ScriptParts}
use Rattle.irp_remove.specs.declared.views.Parties.{Parties}
use Rattle.irp_plain.specs.declared.parts.Change.{Change}
use Rattle.irp_machine.specs.declared.parts.Planned.{Planned}
use Rattle.irp_machine.specs.Machine.{RulesValue, IsNext, act_of, knows_of, seat_at, stepped}
use Rattle.irp_machine.specs.Next.{next_of}
use Rattle.irp_machine.specs.Openings.{MakesAll, Opens, begun, rules_of}
use Rattle.irp_machine.specs.Standings.{ManagerValue, StandingValue}
use Rattle.irp_machine_laws.specs.Hands.{AreHandsWithin, HandsLand}
use Rattle.irp_machine_laws.specs.LockSteps.{IsStepAt}
use Rattle.irp_machine_laws.specs.LockTables.{LockTable, StandsFor, references}

-- Each step of a seat, where a table stands for where the script stands, is the step at the table that the seat's act
-- names, one that the table's rule allows, or none; and the table behind it stands for where the script stands then
abbrev pub LockStepLaw : Type 0
LockStepLaw =
    (rules : RulesValue) (standing : StandingValue) (key : Parties) (table : LockTable) (seat : ℕ) (planned : Planned)
    (step : Change) → HandsLand rules.acts (length standing.seats) → StandsFor rules standing key table
    → act_of rules standing seat ≡ Some planned
    → (next : IsNext rules standing seat planned (next_of standing (seat_at standing seat) planned) step)
    → (new : LockTable) × IsStepAt seat planned.act (seat_at standing seat).stage step table new
    × StandsFor rules
    (stepped rules standing seat planned (next_of standing (seat_at standing seat) planned) step next) key new

-- as the steps of seats begin, a table stands for where the script stands
abbrev pub LockOpeningLaw : Type 0
LockOpeningLaw =
    (rules : RulesValue) (header : Header) (manager : ManagerValue) (labels : List IrpRef) → header.locks ≤ most_locks
    → header.seats < most_seats
    → (key : Parties) × (table : LockTable) × (key.locks ≡ header.locks) × (key.observers ≡ header.seats)
    × StandsFor rules (begun header manager labels) key table

-- the next step of a seat, and what it is at a table
pub record Makes (rules : RulesValue) (old : StandingValue) (seat : ℕ) (new : StandingValue)
    (table after : LockTable) : Type 0 where
  pub planned : Planned
  pub step : Change
  pub act : act_of rules old seat ≡ Some planned
  pub next : IsNext rules old seat planned (next_of old (seat_at old seat) planned) step
  pub leads : new ≡ stepped rules old seat planned (next_of old (seat_at old seat) planned) step next
  pub at : IsStepAt seat planned.act (seat_at old seat).stage step table after

-- the next steps of these seats, one after another, lead from where a script stands to where it stands then, and from
-- one table to another, each by a step that the table's rule allows, or none
abbrev pub Follows : RulesValue → StandingValue → LockTable → List ℕ → StandingValue → LockTable → Type 0
Follows rules old table [] new last = (old ≡ new) × (table ≡ last)
Follows rules old table (seat ∷ path) new last =
    (middle : StandingValue) × (after : LockTable) × Makes rules old seat middle table after
    × Follows rules middle after path new last

-- an order of these steps of a script leads from where they begin to where the script stands then
pub record IsOrder (header : Header) (script : ScriptParts) (rivals steps : List Step) (tells : Bool)
    (start : StandingValue) (path : List ℕ) (new : StandingValue) : Type 0 where
  pub few_locks : header.locks ≤ most_locks
  pub few_seats : header.seats < most_seats
  pub hands : AreHandsWithin header.seats steps
  pub opens : Opens header script start
  pub makes : MakesAll (rules_of header script rivals steps tells) start path new

-- each order of a script's steps is one of steps of a table: a table stands for where the steps begin, the steps lead
-- to a table, and that one stands for where the order leads
abbrev pub LockOrderLaw : Type 0
LockOrderLaw =
    (header : Header) (script : ScriptParts) (rivals steps : List Step) (tells : Bool)
    (start : StandingValue) (path : List ℕ) (new : StandingValue)
    → IsOrder header script rivals steps tells start path new
    → (key : Parties) × (table : LockTable) × (last : LockTable) × (key.locks ≡ header.locks)
    × StandsFor (rules_of header script rivals steps tells) start key table
    × Follows (rules_of header script rivals steps tells) start table path new last
    × StandsFor (rules_of header script rivals steps tells) new key last

-- What holds of a lock where a script stands: its word is far below what an acquire adds to no more, and where a seat
-- knows it drained, its removal has begun, and no seat has a reference to it
pub record IsSoundAt (standing : StandingValue) (lock : LockNo) : Type 0 where
  pub small : slice_index_or standing.words lock.0 0 ≤ 8193
  pub drained : (seat : ℕ) → seat < length standing.seats → knows_of (seat_at standing seat).learned lock ≡ true
      → (slice_index_or standing.words lock.0 0 % 2 ≡ 1)
      × ((other tag : ℕ) → other < length standing.seats
      → references lock.0 tag (seat_at standing other).held ≡ 0)

-- it holds behind each order of a script's steps
abbrev pub LockReachLaw : Type 0
LockReachLaw =
    (header : Header) (script : ScriptParts) (rivals steps : List Step) (tells : Bool)
    (start : StandingValue) (path : List ℕ) (new : StandingValue)
    → IsOrder header script rivals steps tells start path new
    → (lock : LockNo) → lock.0 < header.locks → IsSoundAt new lock
