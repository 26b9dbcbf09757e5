-- The machine of a script: what the next step of a seat makes of where the script stands.
use Rattle.std.specs.Prelude.{ℕ, zero, suc, ◌≡◌, ◌&&◌, Bool, true, false, not, nat_lt, List, length, slice_get, slice_index_or, Option, Some, None, is_some}
use Rattle.std.specs.List.{list_any}
use Rattle.std.specs.Option.{option_map, option_and_then}
use Rattle.irp_types.specs.State.{Fixed}
use Rattle.irp_types.specs.declared.names.LockNo.{LockNo}
use Rattle.irp_types.specs.declared.reply.Reply.{Reply}
use Rattle.irp_script_reader.specs.declared.act.StepAct.{StepAct}
use Rattle.irp_script_reader.specs.declared.act.StepAct.TheVariants.{Allocate}
use Rattle.irp_script_reader.specs.declared.script.ScriptParts.{ScriptParts}
use Rattle.irp_machine.specs.declared.parts.Calling.{Calling}
use Rattle.irp_plain.specs.declared.parts.Change.{Change}
use Rattle.irp_plain.specs.declared.parts.Learned.{Learned}
use Rattle.irp_machine.specs.declared.parts.Next.{Next}
use Rattle.irp_machine.specs.declared.parts.Next.TheVariants.{Changes, Calls}
use Rattle.irp_machine.specs.declared.parts.Planned.{Planned}
use Rattle.irp_machine.specs.declared.place.Place.{Place}
use Rattle.irp_machine.specs.declared.place.Place.TheVariants.{Running, Over}
use Rattle.irp_plain.specs.Seats.{SeatValue, new_seat, is_drained}
use Rattle.irp_machine.specs.Standings.{ManagerValue, StandingValue, after_change, with_manager, standing_mark}
use Rattle.irp_machine.specs.Next.{next_of, called}
use Rattle.irp_machine.specs.Calling.{IsCalled}
use Rattle.irp_machine.specs.Conditions.{act_now}
use Rattle.irp_machine.specs.declared.outcome.End.{End}
use Rattle.irp_machine.specs.Endings.{end_of, end_mark}

-- what is fixed of the manager, the script that tells what its closures answer, the acts of each seat, and whether what
-- they are answered is kept
pub record RulesValue : Type 0 where
  pub fixed : Fixed
  pub script : ScriptParts
  pub acts : List (List Planned)
  pub tells : Bool

-- a seat
abbrev pub seat_at : StandingValue → ℕ → SeatValue
seat_at standing seat = slice_index_or standing.seats seat new_seat

-- the act that a seat is in, or its next one, where it has one left that it makes
abbrev pub act_of : RulesValue → StandingValue → ℕ → Option Planned
act_of rules standing seat =
    option_and_then
    (λ (own : SeatValue).
    option_and_then (λ (acts : List Planned). act_now acts own) (slice_get rules.acts seat))
    (slice_get standing.seats seat)

-- which locks are known to be drained
abbrev pub knows_of : List Learned → LockNo → Bool
knows_of learned lock = list_any (is_drained lock.0) learned

-- an act allocates a packet
abbrev pub is_allocation : StepAct → Bool
is_allocation (Allocate size label) = true
is_allocation other = false

abbrev pub is_allocating : Planned → Bool
is_allocating planned = is_allocation planned.act

-- some act of these seats allocates a packet
abbrev pub allocates : List (List Planned) → Bool
allocates acts = list_any (λ (own : List Planned). list_any is_allocating own) acts

-- a change is that of a call of a seat, which the manager answered, and this is the manager then
pub record IsCallOf (rules : RulesValue) (standing : StandingValue) (seat : ℕ) (planned : Planned) (calling : Calling)
    (change : Change) : Type 0 where
  pub after : ManagerValue
  pub drained : Bool
  pub reply : Reply
  pub call :
      IsCalled rules.fixed rules.script (allocates rules.acts) (knows_of (seat_at standing seat).learned) standing.manager
      calling.call drained reply after
  pub changes : change ≡ called planned calling reply

-- a change is the one that comes next
abbrev pub IsNext : RulesValue → StandingValue → ℕ → Planned → Next → Change → Type 0
IsNext rules standing seat planned (Changes one) change = change ≡ one
IsNext rules standing seat planned (Calls calling) change = IsCallOf rules standing seat planned calling change

-- the manager behind a change: a call's, or the one before
abbrev pub manager_behind :
    (rules : RulesValue) (standing : StandingValue) (seat : ℕ) (planned : Planned) (next : Next) (change : Change)
    → IsNext rules standing seat planned next change → ManagerValue
manager_behind rules standing seat planned (Changes one) change is = standing.manager
manager_behind rules standing seat planned (Calls calling) change call = call.after

-- where the script stands behind a change that comes next
abbrev pub stepped :
    (rules : RulesValue) (standing : StandingValue) (seat : ℕ) (planned : Planned) (next : Next) (change : Change)
    → IsNext rules standing seat planned next change → StandingValue
stepped rules standing seat planned next change is =
    after_change seat change planned.place rules.tells
    (with_manager standing (manager_behind rules standing seat planned next change is))

-- this change comes next, and beside it the manager changes
abbrev pub Acts : RulesValue → StandingValue → ℕ → Planned → Next → StandingValue → Change → Type 0
Acts rules standing seat planned next new change =
    (is : IsNext rules standing seat planned next change)
    × (new ≡ with_manager standing (manager_behind rules standing seat planned next change is))

-- the next step of a seat in an act
abbrev pub Makes : RulesValue → StandingValue → ℕ → Planned → Next → StandingValue → Type 0
Makes rules standing seat planned next new =
    (change : Change) × (is : IsNext rules standing seat planned next change)
    × (new ≡ stepped rules standing seat planned next change is)

-- the next step of a seat: none where it has no act left
abbrev pub StepsTo : RulesValue → StandingValue → ℕ → Option Planned → Option StandingValue → Type 0
StepsTo rules standing seat None after = after ≡ None
StepsTo rules standing seat (Some planned) after =
    (new : StandingValue) × (after ≡ Some new)
    × Makes rules standing seat planned (next_of standing (seat_at standing seat) planned) new

-- no seat below this one has an act left
abbrev pub has_ended_below : RulesValue → StandingValue → ℕ → Bool
has_ended_below rules standing zero = true
has_ended_below rules standing (suc seat) =
    has_ended_below rules standing seat && not (is_some (act_of rules standing seat))

-- no seat has an act left
abbrev pub has_ended : RulesValue → StandingValue → Bool
has_ended rules standing = has_ended_below rules standing (length rules.acts)

-- the last step: how the script has ended is told, once no seat has an act left
abbrev pub ClosesIf : RulesValue → StandingValue → Bool → Option End → Type 0
ClosesIf rules standing true after = after ≡ Some (end_of standing)
ClosesIf rules standing false after = after ≡ None

abbrev pub ClosesTo : RulesValue → StandingValue → Option End → Type 0
ClosesTo rules standing after = ClosesIf rules standing (has_ended rules standing) after

-- the step of a seat below the number of seats, or the last step, which the number of seats stands for
abbrev pub RunningSteps : RulesValue → StandingValue → ℕ → Bool → Option Place → Type 0
RunningSteps rules standing seat true after =
    (next : Option StandingValue) × StepsTo rules standing seat (act_of rules standing seat) next
    × (after ≡ option_map (λ (one : StandingValue). Running one) next)
RunningSteps rules standing seat false after =
    (end : Option End) × ClosesTo rules standing end
    × (after ≡ option_map (λ (one : End). Over one) end)

-- what the next step of a seat makes of a place
abbrev pub PlaceSteps : RulesValue → Place → ℕ → Option Place → Type 0
PlaceSteps rules (Running standing) seat after =
    RunningSteps rules standing seat (nat_lt seat (length rules.acts)) after
PlaceSteps rules (Over end) seat after = after ≡ None

-- the mark of a place
abbrev pub place_mark : Place → ℕ
place_mark (Running standing) = standing_mark standing
place_mark (Over end) = end_mark end
