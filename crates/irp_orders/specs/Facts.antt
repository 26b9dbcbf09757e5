-- What conditions speak of, of a script's end.
use Rattle.std.specs.Prelude.{ℕ, zero, suc, ◌==◌, ◌&&◌, Bool, not, List, [], ◌∷◌, ◌++◌, map, length, slice_get, Option}
use Rattle.std.specs.List.{find}
use Rattle.std.specs.Option.{option_map, option_and_then}
use Rattle.irp_types.specs.declared.names.IrpRef.{IrpRef}
use Rattle.irp_condition.specs.Holding.{Holds}
use Rattle.irp_condition.specs.declared.condition.Condition.{Condition}
use Rattle.irp_condition.specs.declared.facts.Facts.{Facts}
use Rattle.irp_condition.specs.declared.facts.Packet.{Packet}
use Rattle.irp_condition.specs.declared.facts.Told.{Told as Seen}
use Rattle.irp_condition.specs.declared.facts.Told.TheVariants as seen
use Rattle.irp_machine.specs.declared.live_end.DeviceEnd.{DeviceEnd}
use Rattle.irp_machine.specs.declared.live_end.LiveEnd.{LiveEnd}
use Rattle.irp_machine.specs.declared.outcome.End.{End}
use Rattle.irp_machine.specs.declared.outcome.LockEnd.{LockEnd}
use Rattle.irp_machine.specs.declared.outcome.Replies.{Replies}
use Rattle.irp_plain.specs.declared.answered.Answered.{Answered}
use Rattle.irp_plain.specs.declared.answered.Answered.TheVariants as answered
use Rattle.irp_plain.specs.declared.answered.Told.{Told}
use Rattle.irp_script_reader.specs.declared.act.Step.{Step}

-- ---- what steps were answered

-- whether a seat was told this of the step at a place
abbrev pub tells : ℕ → Told → Bool
tells place told = told.step == place

-- what a seat was told of the step at a place, if it was told of it
abbrev pub told_of : ℕ → Replies → Option Answered
told_of place replies = option_map (λ (told : Told). told.answer) (find (tells place) replies.told)

-- what the step at a place was answered: what its seat was told of it
abbrev pub answer_at : List Step → List Replies → ℕ → Option Answered
answer_at steps replies place =
    option_and_then (λ (step : Step). option_and_then (told_of place) (slice_get replies step.seat))
    (slice_get steps place)

-- what the steps below this place were answered
abbrev pub answers_below : List Step → List Replies → ℕ → List (Option Answered)
answers_below steps replies zero = []
answers_below steps replies (suc place) =
    answers_below steps replies place ++ answer_at steps replies place ∷ []

-- what all steps were answered; nothing where replies are left out
abbrev pub answers_of : List Step → End → List (Option Answered)
answers_of steps end = answers_below steps end.replies (length steps)

-- ---- what conditions speak of

-- an answer as conditions see it
abbrev pub seen_of : Answered → Seen
seen_of (answered.Reply reply) = seen.Call reply
seen_of (answered.Word reply) = seen.Word reply

-- a live packet as conditions see it
abbrev pub packet_of : LiveEnd → Packet
packet_of live = record {
  owner = live.owner;
  status = live.status;
  information = live.information;
  current = live.current;
  cancel = live.cancel;
}

-- whether a reference names a live packet
abbrev pub names : IrpRef → LiveEnd → Bool
names irp live = (live.slot == irp.slot) && (live.use_no == irp.use_no)

-- the live packet that a reference names, if it names one
abbrev pub live_of : List LiveEnd → IrpRef → Option Packet
live_of packets irp = option_map packet_of (find (names irp) packets)

-- the words of the remove locks
abbrev pub words_of : End → List ℕ
words_of end = map (λ (lock : LockEnd). lock.word) end.locks

-- for each device that was created whether it was deleted
abbrev pub deleted_of : End → List Bool
deleted_of end = map (λ (device : DeviceEnd). not device.live) end.devices

-- what conditions speak of at an end of a script with these steps: what each step was answered, the live packet of each
-- label, the word of each remove lock, and whether each device that was created was deleted
abbrev pub facts_of : List Step → End → Facts
facts_of steps end = record {
  replies = map (option_map seen_of) (answers_of steps end);
  labels = map (live_of end.packets) end.labels;
  locks = words_of end;
  deleted = deleted_of end;
}

-- an end of a script with these steps meets a condition
abbrev pub Meets : List Step → Condition → End → Type 0
Meets steps condition end = Holds (facts_of steps end) condition
