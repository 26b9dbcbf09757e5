-- The machine's steps at cancel slots are steps of the table of cancel slots.
use Rattle.std.specs.Prelude.{◌≡◌, ℕ, ◌<◌, ◌≤◌, Bool, false, List, [], ◌∷◌, slice_index_or, Some}
use Rattle.irp_types.specs.Limits.{most_seats, most_slots}
use Rattle.irp_types.specs.declared.names.IrpRef.{IrpRef}
use Rattle.irp_transcript.specs.Headers.{slots_of}
use Rattle.irp_transcript.specs.declared.header.Header.{Header}
use Rattle.irp_script_reader.specs.declared.act.Step.{Step}
use Rattle.irp_script_reader.specs.declared.script.ScriptParts.{ScriptParts}
use Rattle.irp_slots.specs.declared.views.Parties.{Parties}
use Rattle.irp_plain.specs.declared.parts.Change.{Change}
use Rattle.irp_machine.specs.declared.parts.Planned.{Planned}
use Rattle.irp_machine.specs.Machine.{RulesValue, IsNext, act_of, seat_at, stepped}
use Rattle.irp_machine.specs.Next.{next_of}
use Rattle.irp_machine.specs.Openings.{MakesAll, Opens, begun, empty_slot, rules_of}
use Rattle.irp_machine.specs.Standings.{ManagerValue, StandingValue}
use Rattle.irp_machine_laws.specs.Seats.{over_seats}
use Rattle.irp_machine_laws.specs.SlotSteps.{IsStepAt}
use Rattle.irp_machine_laws.specs.SlotTables.{SlotTable, StandsFor, finds, puts}

-- Each step of a seat, where a table stands for where the script stands, is the step at the table that the seat's act
-- names, one that the table's rule allows, or none; and the table behind it stands for where the script stands then
abbrev pub SlotStepLaw : Type 0
SlotStepLaw =
    (rules : RulesValue) (standing : StandingValue) (key : Parties) (table : SlotTable) (seat : ℕ) (planned : Planned)
    (step : Change) → StandsFor rules standing key table → act_of rules standing seat ≡ Some planned
    → (next : IsNext rules standing seat planned (next_of standing (seat_at standing seat) planned) step)
    → (new : SlotTable) × IsStepAt key.slots seat planned.act (seat_at standing seat).stage step table new
    × StandsFor rules
    (stepped rules standing seat planned (next_of standing (seat_at standing seat) planned) step next) key new

-- as the steps of seats begin, a table stands for where the script stands
abbrev pub SlotOpeningLaw : Type 0
SlotOpeningLaw =
    (rules : RulesValue) (header : Header) (manager : ManagerValue) (labels : List IrpRef) → slots_of header.form ≤ most_slots
    → header.seats ≤ most_seats
    → (key : Parties) × (table : SlotTable) × (key.slots ≡ slots_of header.form) × (key.cancellers ≡ header.seats)
    × StandsFor rules (begun header manager labels) key table

-- the next step of a seat, and what it is at a table of so many slots
pub record Makes (rules : RulesValue) (slots : ℕ) (old : StandingValue) (seat : ℕ) (new : StandingValue)
    (table after : SlotTable) : Type 0 where
  pub planned : Planned
  pub step : Change
  pub act : act_of rules old seat ≡ Some planned
  pub next : IsNext rules old seat planned (next_of old (seat_at old seat) planned) step
  pub leads : new ≡ stepped rules old seat planned (next_of old (seat_at old seat) planned) step next
  pub at : IsStepAt slots seat planned.act (seat_at old seat).stage step table after

-- the next steps of these seats, one after another, lead from where a script stands to where it stands then, and from
-- one table to another, each by a step that the table's rule allows, or none
abbrev pub Follows : RulesValue → ℕ → StandingValue → SlotTable → List ℕ → StandingValue → SlotTable → Type 0
Follows rules slots old table [] new last = (old ≡ new) × (table ≡ last)
Follows rules slots old table (seat ∷ path) new last =
    (middle : StandingValue) × (after : SlotTable) × Makes rules slots old seat middle table after
    × Follows rules slots middle after path new last

-- an order of these steps of a script leads from where they begin to where the script stands then
pub record IsOrder (header : Header) (script : ScriptParts) (rivals steps : List Step) (tells : Bool)
    (start : StandingValue) (path : List ℕ) (new : StandingValue) : Type 0 where
  pub few_slots : slots_of header.form ≤ most_slots
  pub few_seats : header.seats ≤ most_seats
  pub opens : Opens header script start
  pub makes : MakesAll (rules_of header script rivals steps tells) start path new

-- each order of a script's steps is one of steps of a table: a table stands for where the steps begin, the steps lead
-- to a table, and that one stands for where the order leads
abbrev pub SlotOrderLaw : Type 0
SlotOrderLaw =
    (header : Header) (script : ScriptParts) (rivals steps : List Step) (tells : Bool)
    (start : StandingValue) (path : List ℕ) (new : StandingValue)
    → IsOrder header script rivals steps tells start path new
    → (key : Parties) × (table : SlotTable) × (last : SlotTable) × (key.slots ≡ slots_of header.form)
    × StandsFor (rules_of header script rivals steps tells) start key table
    × Follows (rules_of header script rivals steps tells) key.slots start table path new last
    × StandsFor (rules_of header script rivals steps tells) new key last

-- a slot is empty where nothing stands in it, and no seat is in the midst of a publication there
abbrev pub IsEmptyAtRest : List (List Planned) → StandingValue → ℕ → Type 0
IsEmptyAtRest acts standing number =
    (slice_index_or standing.slots number empty_slot).stands ≡ false → over_seats (puts number) acts standing.seats ≡ 0
    → over_seats (finds number) acts standing.seats ≡ 0
    → (slice_index_or standing.slots number empty_slot).content ≡ 0

-- it holds behind each order of a script's steps
abbrev pub SlotReachLaw : Type 0
SlotReachLaw =
    (header : Header) (script : ScriptParts) (rivals steps : List Step) (tells : Bool)
    (start : StandingValue) (path : List ℕ) (new : StandingValue)
    → IsOrder header script rivals steps tells start path new
    → (number : ℕ) → number < slots_of header.form
    → IsEmptyAtRest (rules_of header script rivals steps tells).acts new number
