-- Which table of the cancel slots a standing of the machine stands for.
use Rattle.std.specs.Prelude.{◌≡◌, ℕ, suc, ◌+◌, ◌%◌, ◌<◌, Bool, true, false, not, ◌&&◌, List, [], length}
use Rattle.std.specs.Prelude.{slice_index_or, Option, Some, None, nat_eq}
use Rattle.std.specs.Option.{option_map_or, option_and_then}
use mathlib.Core.Option.{Option as Found, some}
use lib.ListN.{get_elem?}
use Rattle.atomic_table.specs.Table.{State}
use Rattle.irp_types.specs.Limits.{most_slots}
use Rattle.irp_script_reader.specs.declared.act.StepAct.{StepAct}
use Rattle.irp_script_reader.specs.declared.act.StepAct.TheVariants as does
use Rattle.irp_slots.specs.declared.views.Stage.{Stage as OwnerStage}
use Rattle.irp_slots.specs.declared.views.Stage.TheVariants.{Idle, Published, Standing, Done}
use Rattle.irp_slots.specs.declared.views.Owning.{Owning}
use Rattle.irp_slots.specs.declared.views.Asking.{Asking}
use Rattle.irp_slots.specs.declared.views.View.{View}
use Rattle.irp_slots.specs.declared.views.View.TheVariants.{Owner, Canceller}
use Rattle.irp_slots.specs.declared.views.Parties.{Parties}
use Rattle.irp_slots.specs.Core.{Kept, content_of, flag, flag_of, is_begun, is_standing}
use Rattle.irp_machine.specs.Conditions.{act_now}
use Rattle.irp_machine.specs.declared.parts.Planned.{Planned}
use Rattle.irp_plain.specs.declared.parts.Slot.{Slot}
use Rattle.irp_plain.specs.declared.parts.Stage.{Stage}
use Rattle.irp_plain.specs.declared.parts.Stage.TheVariants as stages
use Rattle.irp_machine.specs.Machine.{RulesValue, seat_at}
use Rattle.irp_machine.specs.Openings.{empty_slot}
use Rattle.irp_plain.specs.Seats.{SeatValue}
use Rattle.irp_machine.specs.Standings.{StandingValue}
use Rattle.irp_machine_laws.specs.Seats.{one_if, over_seats}

-- a table of cancel slots
abbrev pub SlotTable : Type 0
SlotTable = State (Unit {0}) View

-- the number of the party that owns a slot: the first party has number 0
abbrev pub owner_no : ℕ → ℕ
owner_no number = suc number

-- the number of the party that asks for a seat: it stands behind the owners of so many slots
abbrev pub asker_no : ℕ → ℕ → ℕ
asker_no slots seat = suc (slots + seat)

-- ---- what the seats of a machine say

-- the slot in which an act publishes
abbrev pub published_by : StepAct → Option ℕ
published_by (does.Publish slot irp) = Some slot
published_by other = None

-- the slot whose flag an act sets
abbrev pub requested_by : StepAct → Option ℕ
requested_by (does.Request slot) = Some slot
requested_by other = None

-- the slot into which a seat has put its use at this stage of its act, and whose flag it has yet to read
abbrev pub put_at : Stage → Option Planned → Option ℕ
put_at stages.Published act = option_and_then (λ (planned : Planned). published_by planned.act) act
put_at other act = None

-- the slot whose flag a seat has then found set at this stage
abbrev pub found_at : Stage → Option Planned → Option ℕ
found_at stages.FoundSet act = option_and_then (λ (planned : Planned). published_by planned.act) act
found_at other act = None

-- the slot whose flag a seat has set at this stage, in a request that it has yet to end
abbrev pub asked_at : Stage → Option Planned → Option ℕ
asked_at stages.Flagged act = option_and_then (λ (planned : Planned). requested_by planned.act) act
asked_at other act = None

-- the same of a seat with these acts
abbrev pub put : List Planned → SeatValue → Option ℕ
put acts seat = put_at seat.stage (act_now acts seat)

abbrev pub found : List Planned → SeatValue → Option ℕ
found acts seat = found_at seat.stage (act_now acts seat)

abbrev pub asked : List Planned → SeatValue → Option ℕ
asked acts seat = asked_at seat.stage (act_now acts seat)

-- 1 where the slot is this one
abbrev pub is_at : ℕ → Option ℕ → ℕ
is_at number slot = option_map_or {T = ℕ} {U = ℕ} (λ one. one_if (nat_eq one number)) slot 0

-- 1 where the seat has put its use into the slot, and has yet to read the flag
abbrev pub puts : ℕ → List Planned → SeatValue → ℕ
puts number acts seat = is_at number (put acts seat)

-- 1 where the seat has found the slot's flag set, and has yet to take its use out
abbrev pub finds : ℕ → List Planned → SeatValue → ℕ
finds number acts seat = is_at number (found acts seat)

-- ---- the two together

-- the owner has put its use in, and has yet to read the flag or to take the use out
abbrev pub is_published : OwnerStage → Bool
is_published Idle = false
is_published Published = true
is_published Standing = false
is_published Done = false

-- What a slot is at a table, where so many seats have put a use into it, and so many have found its flag set: the
-- owner's stage tells whether it was used and stands, and whether a seat is in the midst of its publication
pub record IsOwned (table : SlotTable) (number : ℕ) (slot : Slot) (putting finding : ℕ) : Type 0 where
  pub owning : Owning
  pub at : get_elem? table.views (owner_no number) ≡ some (Owner owning)
  pub own : owning.slot ≡ number
  pub flag_is : flag_of table.words number % 2 ≡ one_if slot.flag
  pub content_is : content_of table.words number ≡ slot.content
  pub used_is : slot.used ≡ is_begun owning.stage
  pub stands_is : slot.stands ≡ is_standing owning.stage
  pub puts_is : putting ≡ one_if (is_published owning.stage && not owning.found_set)
  pub finds_is : finding ≡ one_if (is_published owning.stage && owning.found_set)

-- a party asks for a seat: it has set the flag of the slot whose request the seat has yet to end
pub record IsAsking (slots : ℕ) (acts : List Planned) (seat : SeatValue) (view : Found View) : Type 0 where
  pub asking : Asking
  pub at : view ≡ some (Canceller asking)
  pub flagged_long : length asking.flagged ≡ most_slots
  pub ended_long : length asking.ended ≡ most_slots
  pub has_flagged : (number : ℕ) → asked acts seat ≡ Some number
      → (number < slots) × (flag asking.flagged number ≡ true)
  pub put_inside : (number : ℕ) → put acts seat ≡ Some number → number < slots
  pub found_inside : (number : ℕ) → found acts seat ≡ Some number → number < slots

-- A table stands for where the script stands: it keeps the rule, its slots are those of the machine, each with a party
-- that owns it, and one party asks for each seat
pub record StandsFor (rules : RulesValue) (standing : StandingValue) (key : Parties) (table : SlotTable) : Type 0 where
  pub kept : Kept key table
  pub homes : table.homes ≡ []
  pub slots : length standing.slots ≡ key.slots
  pub owned : (number : ℕ) → number < key.slots
      → IsOwned table number (slice_index_or standing.slots number empty_slot)
      (over_seats (puts number) rules.acts standing.seats) (over_seats (finds number) rules.acts standing.seats)
  pub askers : (seat : ℕ) → seat < length standing.seats
      → IsAsking key.slots (slice_index_or rules.acts seat []) (seat_at standing seat)
      (get_elem? table.views (asker_no key.slots seat))
