-- The calls that seats have made, and those of a script's steps, but for the packets and the tokens that they name.
use Rattle.std.specs.Prelude.{ℕ, ◌≤◌, ◌==◌, if◌then◌else◌, Option, None, List, ◌++◌, map}
use Rattle.std.specs.List.{count_by, filter_map}
use Rattle.irp_types.specs.Calls.{Call, call_with}
use Rattle.irp_types.specs.declared.entry.Entry.{Entry}
use Rattle.irp_manager.specs.Seats.{Seated}
use Rattle.irp_remove.specs.Seats.{Holder}
use Rattle.irp_steps.specs.StepKinds.{kind_of}
use Rattle.irp_script.specs.Outcomes.{Outcome, any_packet, nameless_call}
use Rattle.irp_script.specs.Pairs.{Pair, pair_of}

-- a call with that packet in the place of its own, and 0 in the place of a token
abbrev pub nameless : Call → Call
nameless call = call_with call any_packet 0

-- the call of a step, if it is one of this seat's and is a call
abbrev pub call_by : ℕ → Outcome → Option Call
call_by seat out =
    if seat == out.step.seat
    then nameless_call (kind_of out.step.act) out.step.act out.way
    else None

-- the calls of a seat's steps, in order
abbrev pub calls_of : ℕ → List Outcome → List Call
calls_of seat outs = filter_map (call_by seat) outs

-- the calls of entries
abbrev pub calls_in : List Entry → List Call
calls_in entries = map (λ (entry : Entry). nameless entry.call) entries

-- which two seats they are, and the calls that the one has made
pub record SeatCalls : Type 0 where
  pub pair : Pair
  pub calls : List Call

abbrev pub seat_calls : Seated → Holder → SeatCalls
seat_calls seat remove = record { pair = pair_of seat remove; calls = calls_in seat.entries }

-- the same once these steps are made: the calls of its own among them follow
abbrev pub once_made : List Outcome → SeatCalls → SeatCalls
once_made outs before =
    record before { calls = before.calls ++ calls_of before.pair.seat outs }

-- no two have the same number
abbrev pub NoneTwice : List Pair → Type 0
NoneTwice pairs = (number : ℕ) → count_by (λ (pair : Pair). pair.seat == number) pairs ≤ 1
