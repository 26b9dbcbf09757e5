-- What workers do: one step after the other, each a call, or an act on remove locks or on a cancel slot.
use Rattle.std.specs.Prelude.{
  ℕ,
  ◌≡◌,
  ◌≢◌,
  ◌⊎◌,
  ◌≤◌,
  ◌%◌,
  ◌==◌,
  ◌^◌,
  All,
  Bool,
  Contains,
  true,
  false,
  if◌then◌else◌,
  map,
  nat_lt,
  Option,
  Some,
  None,
  List,
  [],
  ◌∷◌,
  ◌++◌,
  length,
  take,
  slice_get,
  slice_set,
}
use Rattle.std.specs.List.{flat_map}
use Rattle.std.specs.Option.{option_or}
use Rattle.irp_types.specs.declared.names.LockNo.{LockNo}
use Rattle.irp_types.specs.declared.seat_act.Hand.{Hand}
use Rattle.irp_types.specs.declared.seat_act.LockAct.{LockAct}
use Rattle.irp_types.specs.declared.seat_act.SlotAct.{SlotAct}
use Rattle.irp_types.specs.declared.reply.Reply.{Reply}
use Rattle.irp_types.specs.declared.status.Status.{Status}
use Rattle.irp_types.specs.declared.call.Call.TheVariants.{FinishTaken}
use Rattle.irp_manager.specs.Booked.{Receipted}
use Rattle.irp_manager.specs.Seats.{Seated}
use Rattle.irp_remove.specs.Calls.{IsSameSeat}
use Rattle.irp_remove.specs.Seats.{Holder}
use Rattle.irp_slots.specs.declared.answers.Token.{Token}
use Rattle.irp_shared.specs.Sharing.{Called, given_back}
use Rattle.irp_transcript.specs.declared.word_line.Act.{Act}
use Rattle.irp_transcript.specs.declared.word_line.Act.TheVariants as act
use Rattle.irp_transcript.specs.declared.word_line.WordLine.{WordLine}
use Rattle.irp_transcript.specs.declared.word_line.WordReply.{WordReply}
use Rattle.irp_transcript.specs.declared.word_line.WordReply.TheVariants.{NoToken}
use Rattle.irp_script_reader.specs.declared.act.Step.{Step}
use Rattle.irp_steps.specs.declared.answered.Answered.{Answered}
use Rattle.irp_steps.specs.declared.answered.Answered.TheVariants as answer
use Rattle.irp_steps.specs.declared.step_kind.StepKind.{StepKind}
use Rattle.irp_steps.specs.declared.step_kind.StepKind.TheVariants.{
  Calls,
  OnLock,
  Hands,
  OnSlot,
  Finishes,
}
use Rattle.irp_script.specs.Acts.{Acts, HandActs, SlotActs}
use Rattle.irp_script.specs.AtSlots.{AtSlots, IsSpent, fresh}
use Rattle.irp_script.specs.Calling.{CallsFor}
use Rattle.irp_steps.specs.Conditions.{Heard, holds, none_heard, with_answer}
use Rattle.irp_script.specs.Labels.{AreFounded, IsNamed, Known, known_reading, known_to, none_bound}
use Rattle.irp_steps.specs.StepKinds.{kind_of}
use Rattle.irp_script.specs.Outcomes.{is_own_step, own_placed}
use Rattle.irp_script.specs.Numbers.{EachAsOften}
use Rattle.irp_script.specs.Stops.{IsUnmade, Terms}
use Rattle.irp_script.specs.declared.binding.NamedPacket.{NamedPacket}
use Rattle.irp_script.specs.declared.stop.Stop.{Stop}
use Rattle.irp_script.specs.declared.stop.StopReason.{StopReason}
use Rattle.irp_script.specs.declared.stop.StopReason.TheVariants as why

-- a seat of a script: the one that makes calls, whatever room it has, the remove seat, and what it has at the slots
pub record AtWork : Type 0 where
  pub seat : Seated
  pub remove : Holder
  pub parties : AtSlots

abbrev pub roomless : Seated → Seated
roomless seat = record seat { room = 0 }

abbrev pub at_work : Seated → Holder → AtSlots → AtWork
at_work seat remove parties = record { seat = roomless seat; remove = remove; parties = parties }

-- a worker's seats, the word lines of what they did, what it knows of the labels, and what its steps were answered
pub record Working : Type 0 where
  pub seats : List AtWork
  pub lines : List WordLine
  pub known : Known
  pub heard : Heard

abbrev pub working : List AtWork → List WordLine → Known → Heard → Working
working seats lines known heard = record { seats = seats; lines = lines; known = known; heard = heard }

-- the line of a step of this place
abbrev pub line_of : ℕ → Step → Act → WordReply → WordLine
line_of place step act reply = record { seat = step.seat; step = place; act = act; reply = reply }

-- the lines have one more, which tells what the step of this place was answered
abbrev pub Tells : ℕ → Step → Act → WordReply → List WordLine → List WordLine → Type 0
Tells place step act reply lines longer = longer ≡ lines ++ line_of place step act reply ∷ []

-- nothing was done
abbrev pub Stays : AtWork → AtWork → List WordLine → List WordLine → Type 0
Stays before after lines longer = (after ≡ before) × (longer ≡ lines)

-- a call that was answered so, with what the seat's own remove seat knew of the locks
pub record MakesCall (place : ℕ) (step : Step) (before after : AtWork) (lines longer : List WordLine)
    (known learnt : Known) (reply : Reply) : Type 0 where
  pub called : CallsFor place step.act before.remove before.seat after.seat known learnt reply
  pub rest : after ≡ record before { seat = after.seat }
  pub silent : longer ≡ lines

-- an act on one of so many locks that was answered so, and its line
pub record ActsOnLock (count place : ℕ) (step : Step) (on : LockAct) (before after : AtWork)
    (lines longer : List WordLine) (reply : WordReply) : Type 0 where
  pub did : Acts count on before.remove after.remove reply
  pub same : IsSameSeat before.remove after.remove
  pub rest : after ≡ record before { remove = after.remove }
  pub told : Tells place step (act.OnLock on) reply lines longer

-- an act on a cancel slot that was answered so, and its line
pub record ActsOnSlot (place : ℕ) (step : Step) (on : SlotAct) (before after : AtWork)
    (lines longer : List WordLine) (known learnt : Known) (reply : WordReply) : Type 0 where
  pub did : SlotActs place known learnt step.act on before.parties after.parties reply
  pub rest : after ≡ record before { parties = after.parties }
  pub told : Tells place step (act.OnSlot on) reply lines longer

-- a finish with a token that the seat took from the slot, and has not spent: one call, of this token's number. The
-- token is left in its place where it comes back
pub record FinishesTaken (place : ℕ) (step : Step) (slot : ℕ) (status : Status) (information : ℕ)
    (before after : AtWork) (lines longer : List WordLine) (known learnt : Known) (reply : Reply) : Type 0 where
  pub taken_at : ℕ
  pub token : Token
  pub packet : NamedPacket
  pub receipt : Receipted
  pub there : slice_get before.parties.taken taken_at ≡ Some (fresh slot token)
  pub named : IsNamed known step.act packet
  pub noted : learnt ≡ known_reading place known step.act packet
  pub recorded : Called before.seat (FinishTaken packet.irp token.use_no status information)
      (λ lock. false) receipt after.seat
  pub told : reply ≡ receipt.reply
  pub rest : after ≡ record before {
    seat = after.seat;
    parties = record before.parties {
      taken = slice_set before.parties.taken taken_at
          (record { slot = slot; token = given_back receipt.reply token });
    };
  }
  pub silent : longer ≡ lines

-- a finish without one: no call, and a line
pub record FindsNoToken (place : ℕ) (step : Step) (slot : ℕ) (before after : AtWork)
    (lines longer : List WordLine) : Type 0 where
  pub none : All (IsSpent slot) before.parties.taken
  pub rest : after ≡ before
  pub told : Tells place step (act.FinishTaken slot) NoToken lines longer

-- a finish of either kind that was answered so
abbrev pub Finishing : ℕ → Step → ℕ → Status → ℕ → AtWork → AtWork → List WordLine → List WordLine → Known → Known
    → Answered → Type 0
Finishing place step slot status information before after lines longer known learnt (answer.Reply reply) =
    FinishesTaken place step slot status information before after lines longer known learnt reply
Finishing place step slot status information before after lines longer known learnt (answer.Word reply) =
    (learnt ≡ known) × (reply ≡ NoToken) × FindsNoToken place step slot before after lines longer

-- What a step of this place does to its own seat, to the lines and to what is known of the labels, where it is answered
-- so: a call by the manager, others by a remove lock or a cancel slot. A hand does more
abbrev pub Does : ℕ → ℕ → Step → StepKind → AtWork → AtWork → List WordLine → List WordLine → Known → Known → Answered
    → Type 0
Does count place step Calls before after lines longer known learnt (answer.Reply reply) =
    MakesCall place step before after lines longer known learnt reply
Does count place step (OnLock on) before after lines longer known learnt (answer.Word reply) =
    (learnt ≡ known) × ActsOnLock count place step on before after lines longer reply
Does count place step (OnSlot on) before after lines longer known learnt (answer.Word reply) =
    ActsOnSlot place step on before after lines longer known learnt reply
Does count place step (Finishes slot status information) before after lines longer known learnt given =
    Finishing place step slot status information before after lines longer known learnt given
Does count place step other before after lines longer known learnt given = ⊥

-- the seat has seen so many entries of the history, or more if it had seen more
abbrev pub caught_up : ℕ → AtWork → AtWork
caught_up last own = record own {
  seat = record own.seat { seen = if nat_lt own.seat.seen last then last else own.seat.seen };
}

-- how much of the history shows what a seat recorded: all that it has seen behind its call, and 0 where it made none
abbrev pub news : ℕ → ℕ → ℕ
news before after = if before == after then 0 else after

-- The seat that the step names made it. All seats of the worker have then seen the entry of its call, if it was one. So
-- the calls of one worker stand in the history in the order of its steps. Its answer is kept. Nothing else changes
pub record MakesAlone (count place : ℕ) (step : Step) (kind : StepKind) (before after : Working)
    : Type 0 where
  pub at : ℕ
  pub old : AtWork
  pub new : AtWork
  pub there : slice_get before.seats at ≡ Some old
  pub named : old.seat.number ≡ step.seat
  pub answer : Answered
  pub did : Does count place step kind old new before.lines after.lines before.known after.known answer
  pub heard : after.heard ≡ with_answer before.heard place answer
  pub others : after.seats ≡ map (caught_up (news old.seat.seen new.seat.seen)) (slice_set before.seats at new)

-- a reference to one of so many locks went from the one seat to the other, or was refused
pub record HandsOver (count : ℕ) (lock : LockNo) (tag : ℕ)
    (giver giver_after taker taker_after : AtWork) (reply : WordReply) : Type 0 where
  pub did : HandActs count lock.0 tag giver.remove giver_after.remove
      taker.remove taker_after.remove reply
  pub giver_same : IsSameSeat giver.remove giver_after.remove
  pub taker_same : IsSameSeat taker.remove taker_after.remove
  pub giver_rest : giver_after ≡ record giver { remove = giver_after.remove }
  pub taker_rest : taker_after ≡ record taker { remove = taker_after.remove }

-- the seat at the one place handed to the one at the other, and the others stay
pub record HandsBetween (count : ℕ) (lock : LockNo) (tag from_at to_at : ℕ)
    (before after : List AtWork) (reply : WordReply) : Type 0 where
  pub giver : AtWork
  pub giver_after : AtWork
  pub taker : AtWork
  pub taker_after : AtWork
  pub giver_there : slice_get before from_at ≡ Some giver
  pub taker_there : slice_get before to_at ≡ Some taker
  pub handed : HandsOver count lock tag giver giver_after taker taker_after reply
  pub others : after ≡ slice_set (slice_set before from_at giver_after) to_at taker_after

-- the seat that the step names handed to another one, which has that number, there is one line more, and the answer is
-- kept
pub record MakesHand (count place : ℕ) (step : Step) (hand : Hand)
    (before after : Working) : Type 0 where
  pub from_at : ℕ
  pub to_at : ℕ
  pub apart : from_at ≢ to_at
  pub reply : WordReply
  pub between : HandsBetween count hand.lock hand.tag from_at to_at before.seats after.seats reply
  pub giver_named : between.giver.seat.number ≡ step.seat
  pub taker_named : between.taker.seat.number ≡ hand.to
  pub told : Tells place step (act.Hand hand) reply before.lines after.lines
  pub unlearnt : after.known ≡ before.known
  pub heard : after.heard ≡ with_answer before.heard place (answer.Word reply)

-- a step of this place was made
abbrev pub MakesBy : ℕ → ℕ → Step → StepKind → Working → Working → Type 0
MakesBy count place step (Hands hand) before after = MakesHand count place step hand before after
MakesBy count place step alone before after = MakesAlone count place step alone before after

abbrev pub Makes : ℕ → ℕ → Step → Working → Working → Type 0
Makes count place step before after = MakesBy count place step (kind_of step.act) before after

-- the condition of a step holds, by what the worker's steps before it were answered
abbrev pub applies : Step → Working → Bool
applies step before = holds before.heard step.condition

-- a step of this place was made where its condition holds. Else it was passed over, and nothing changed
abbrev pub TurnsBy : Bool → ℕ → ℕ → Step → Working → Working → Type 0
TurnsBy true count place step before after = Makes count place step before after
TurnsBy false count place step before after = after ≡ before

abbrev pub Turns : ℕ → ℕ → Step → Working → Working → Type 0
Turns count place step before after = TurnsBy (applies step before) count place step before after

-- the same of steps with their places, one after the other
abbrev pub MakesEach : ℕ → List (ℕ × Step) → Working → Working → Type 0
MakesEach count [] before after = after ≡ before
MakesEach count (each ∷ rest) before after =
    (between : Working) × Turns count each.0 each.1 before between
    × MakesEach count rest between after

-- a step with its place, if it is one of the worker's own
abbrev pub if_own : ℕ → ℕ → ℕ → Step → List (ℕ × Step)
if_own number workers place step =
    if is_own_step number workers step then (place, step) ∷ [] else []

-- a worker has a seat of this number
abbrev pub HasSeat : List AtWork → ℕ → Type 0
HasSeat seats number = Contains (map (λ (own : AtWork). own.seat.number) seats) number

-- a hand isn't made: the seat that the step names isn't there, or the other isn't, both are one, or memory ran out
abbrev pub HandStops : Step → Hand → List AtWork → StopReason → Type 0
HandStops step hand seats why.NoSeat = ¬ HasSeat seats step.seat
HandStops step hand seats why.NoTaker = HasSeat seats step.seat × ¬ HasSeat seats hand.to
HandStops step hand seats why.SameSeat = HasSeat seats step.seat × (hand.to ≡ step.seat)
HandStops step hand seats why.Memory = HasSeat seats step.seat × HasSeat seats hand.to
HandStops step hand seats other = ⊥

-- another step of this kind isn't made: the seat that it names isn't there, or is and doesn't make it
abbrev pub AloneStops : Terms → StepKind → Step → List AtWork → StopReason → Type 0
AloneStops terms kind step seats reason =
    ((reason ≡ why.NoSeat) × ¬ HasSeat seats step.seat)
    ⊎ ((at : ℕ) × (own : AtWork) × (slice_get seats at ≡ Some own) × (own.seat.number ≡ step.seat)
    × IsUnmade terms kind own.seat.seen own.parties reason)

-- a worker with these seats doesn't make a step of this kind, for this reason
abbrev pub StopsBy : Terms → StepKind → Step → List AtWork → StopReason → Type 0
StopsBy terms (Hands hand) step seats reason = HandStops step hand seats reason
StopsBy terms alone step seats reason = AloneStops terms alone step seats reason

-- the same of a step at this place: places are below 2 ^ 32
abbrev pub StopsAt : Terms → ℕ → Step → List AtWork → StopReason → Type 0
StopsAt terms place step seats reason =
    ((reason ≡ why.TooManySteps) × (2 ^ 32 ≤ place)) ⊎ StopsBy terms (kind_of step.act) step seats reason

-- one of so many workers stopped in front of a step of its own whose condition holds, and tells so
pub record IsStopAt (terms : Terms) (number workers place : ℕ) (step : Step) (work : Working) (stop : Stop)
    : Type 0 where
  pub own : is_own_step number workers step ≡ true
  pub applied : applies step work ≡ true
  pub named : stop.seat ≡ step.seat
  pub why : StopsAt terms place step work.seats stop.reason

-- one of so many workers made its own among the first steps, and among all where it didn't stop, but for those that it
-- passed over; where it stopped, it was in front of the next step
pub record MakesOwn (terms : Terms) (number workers : ℕ) (steps : List Step) (before after : Working)
    (stop : Option Stop) : Type 0 where
  pub reached : ℕ
  pub within : reached ≤ length steps
  pub each : MakesEach terms.fixed.locks (own_placed number workers (take reached steps)) before after
  pub all : stop ≡ None → reached ≡ length steps
  pub next : (told : Stop) → stop ≡ Some told
      → (step : Step) × (slice_get steps reached ≡ Some step)
      × IsStopAt terms number workers reached step after told

-- a seat is one of a worker's own
abbrev pub IsOwn : ℕ → ℕ → AtWork → Type 0
IsOwn number workers own = own.seat.number % workers ≡ number

-- what a worker left
pub record Left : Type 0 where
  pub work : Working
  pub stop : Option Stop

-- the first stop of those that workers tell
abbrev pub first_stop : {W : Type 0} → (W → Option Stop) → List W → Option Stop
first_stop told_by [] = None
first_stop told_by (worker ∷ others) = option_or (told_by worker) (first_stop told_by others)

-- each seat was dealt to the one of so many workers whose own it is, each worker made its own steps, and what they left
-- was gathered. What a step took of a label from another worker's step is what that step bound the label to
pub record WorkApart (terms : Terms) (workers : ℕ) (steps : List Step) (known : Known) (ready after : List AtWork)
    (lines : List WordLine) (stop : Option Stop) : Type 0 where
  pub dealt : List (List AtWork)
  pub left : List Left
  pub many : (length dealt ≡ workers) × (length left ≡ workers)
  pub seats : EachAsOften ready (flat_map (λ seats. seats) dealt)
  pub own : (number : ℕ) (seats : List AtWork)
      → slice_get dealt number ≡ Some seats → All (IsOwn number workers) seats
  pub made : (number : ℕ) (seats : List AtWork) (one : Left)
      → slice_get dealt number ≡ Some seats → slice_get left number ≡ Some one
      → MakesOwn terms number workers steps
      (working seats [] (known_to number workers steps known) (none_heard steps)) one.work one.stop
  pub back : EachAsOften (flat_map (λ (one : Left). one.work.seats) left) after
  pub told : EachAsOften (flat_map (λ (one : Left). one.work.lines) left) lines
  pub halted : stop ≡ first_stop (λ (one : Left). one.stop) left
  pub labels : AreFounded (map (λ (one : Left). one.work.known) left)

-- what came behind the setup: nothing, where its worker stopped, which is told; and else the steps
abbrev pub WorkAfter : Option Stop → Terms → ℕ → List Step → Known → List AtWork → List AtWork
    → List WordLine → Option Stop → Type 0
WorkAfter (Some told) terms workers steps known ready after lines stop =
    (after ≡ ready) × (lines ≡ []) × (stop ≡ Some told)
WorkAfter None terms workers steps known ready after lines stop =
    WorkApart terms workers steps known ready after lines stop

-- One worker made the setup with all seats, and then, unless it stopped, so many made the steps. All seats have seen
-- the whole setup then, so each call of the steps stands behind all calls of the setup in the history. At first none of
-- so many labels is bound, and each worker knows what the setup bound. What the setup was answered isn't kept
pub record RunsScript (terms : Terms) (workers labels : ℕ) (setup steps : List Step)
    (before after : List AtWork) (lines : List WordLine) (stop : Option Stop) : Type 0 where
  pub ready : Working
  pub halted : Option Stop
  pub first : MakesOwn terms 0 1 setup (working before [] (none_bound labels) []) ready halted
  pub rest : WorkAfter halted terms workers steps ready.known ready.seats after lines stop
