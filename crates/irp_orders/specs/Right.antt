-- What is right of an end: no step was refused, each packet that was sent has come back, no remove lock is held, no
-- cancel slot is full, and no cancel routine is left.
use Rattle.std.specs.Prelude.{◌≡◌, ◌≤◌, Bool, true, false, List, [], Option, None, All}
use Rattle.std.specs.Option.{option_map_or}
use Rattle.irp_types.specs.declared.entry.Entry.{Entry}
use Rattle.irp_types.specs.declared.location.Owner.{Owner}
use Rattle.irp_types.specs.declared.location.Owner.TheVariants as owner
use Rattle.irp_types.specs.declared.reply.Reply.{Reply}
use Rattle.irp_types.specs.declared.reply.Reply.TheVariants as reply
use Rattle.irp_transcript.specs.Transcripts.{TranscriptValue}
use Rattle.irp_machine.specs.Replays.{IsReplay}
use Rattle.irp_machine.specs.declared.live_end.LiveEnd.{LiveEnd}
use Rattle.irp_machine.specs.declared.outcome.End.{End}
use Rattle.irp_machine.specs.declared.outcome.LockEnd.{LockEnd}
use Rattle.irp_machine.specs.declared.outcome.SlotEnd.{SlotEnd}
use Rattle.irp_plain.specs.declared.answered.Answered.{Answered}
use Rattle.irp_plain.specs.declared.answered.Answered.TheVariants as answered
use Rattle.irp_steps.specs.Conditions.{is_refused_word}
use Rattle.irp_script_reader.specs.declared.act.Step.{Step}
use Rattle.irp_script_reader.specs.declared.script.ScriptParts.{ScriptParts}
use Rattle.irp_orders.specs.Facts.{answers_of}

-- ---- what is refused

-- a call was refused. Right drivers may be answered FALSE, and that no cancel routine was set before
abbrev pub is_refused_reply : Reply → Bool
is_refused_reply (reply.Refused refusal) = true
is_refused_reply other = false

-- a step was refused: by the manager, or by a remove lock or a cancel slot. Right drivers may be answered DeletePending,
-- Busy, Lost and Nothing
abbrev pub is_refused : Answered → Bool
is_refused (answered.Reply reply) = is_refused_reply reply
is_refused (answered.Word reply) = is_refused_word reply

-- ---- what is right

-- a call of setup was taken
abbrev pub IsTaken : Entry → Type 0
IsTaken entry = is_refused_reply entry.reply ≡ false

-- a step wasn't refused
abbrev pub IsAccepted : Option Answered → Type 0
IsAccepted answer = option_map_or is_refused answer false ≡ false

abbrev pub is_device : Owner → Bool
is_device (owner.Device device) = true
is_device other = false

-- no device has a packet: it was never sent, or was completed, or a routine kept it for its originator
abbrev pub IsBack : LiveEnd → Type 0
IsBack live = is_device live.owner ≡ false

-- a packet has no cancel routine
abbrev pub IsWithoutRoutine : LiveEnd → Type 0
IsWithoutRoutine live = live.cancel_routine ≡ None

-- nobody holds a remove lock; its removal may have begun
abbrev pub IsReleased : LockEnd → Type 0
IsReleased lock = lock.word ≤ 1

-- nothing stands in a cancel slot
abbrev pub IsEmpty : SlotEnd → Type 0
IsEmpty slot = slot.content ≡ 0

-- an end of a script with these steps is right, behind the setup that these entries tell
pub record IsRight (steps : List Step) (setup : List Entry) (end : End) : Type 0 where
  pub setup_taken : All IsTaken setup
  pub accepted : All IsAccepted (answers_of steps end)
  pub back : All IsBack end.packets
  pub released : All IsReleased end.locks
  pub empty : All IsEmpty end.slots
  pub without_routine : All IsWithoutRoutine end.packets

-- these entries tell the setup of a script: those of the order that has no step
pub record IsSetup (script : ScriptParts) (entries : List Entry) : Type 0 where
  pub transcript : TranscriptValue
  pub replay : IsReplay script [] transcript
  pub entries_are : entries ≡ transcript.entries
