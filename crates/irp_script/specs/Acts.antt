-- What acts on remove locks and cancel slots do to seats, by what they were answered.
use Rattle.std.specs.Prelude.{ℕ, ◌≡◌}
use Rattle.irp_remove.specs.Calls.{
  Acquired,
  AcquireRefused,
  Released,
  ReleaseRefused,
  Begun,
  BeginRefused,
  Looked,
  DrainRefused,
  Handed,
  HandRefused,
}
use Rattle.irp_remove.specs.Seats.{Holder}
use Rattle.irp_remove.specs.declared.refusal.AcquireRefusal.TheVariants as acquire
use Rattle.irp_remove.specs.declared.refusal.ReleaseRefusal.TheVariants as release
use Rattle.irp_remove.specs.declared.refusal.BeginRefusal.TheVariants as begin
use Rattle.irp_remove.specs.declared.refusal.DrainRefusal.TheVariants as drain
use Rattle.irp_remove.specs.declared.refusal.HandRefusal.TheVariants as hand
use Rattle.irp_transcript.specs.declared.word_line.WordReply.{WordReply}
use Rattle.irp_transcript.specs.declared.word_line.WordReply.TheVariants as answered
use Rattle.irp_script_reader.specs.declared.act.StepAct.{StepAct}
use Rattle.irp_script.specs.AtSlots.{AtSlots, Publishing, Requesting, Withdrawing}
use Rattle.irp_types.specs.declared.seat_act.LockAct.{LockAct}
use Rattle.irp_types.specs.declared.seat_act.LockAct.TheVariants.{
  Acquire,
  Release,
  BeginRemove,
  Drained,
}
use Rattle.irp_types.specs.declared.seat_act.SlotAct.{SlotAct}
use Rattle.irp_types.specs.declared.seat_act.SlotAct.TheVariants.{Publish, Withdraw, Request}
use Rattle.irp_script.specs.Labels.{IsNamed, Known, known_reading}
use Rattle.irp_script.specs.declared.binding.NamedPacket.{NamedPacket}

-- an acquisition, of so many locks
abbrev pub AcquireActs : ℕ → ℕ → ℕ → Holder → Holder → WordReply → Type 0
AcquireActs count lock tag before after answered.Acquired = Acquired count lock tag before after
AcquireActs count lock tag before after answered.DeletePending =
    AcquireRefused count lock before after acquire.DeletePending
AcquireActs count lock tag before after answered.SeatFull =
    AcquireRefused count lock before after acquire.SeatFull
AcquireActs count lock tag before after answered.NoLock =
    AcquireRefused count lock before after acquire.NoLock
AcquireActs count lock tag before after other = ⊥

-- a release
abbrev pub ReleaseActs : ℕ → ℕ → ℕ → Holder → Holder → WordReply → Type 0
ReleaseActs count lock tag before after answered.Done = Released count lock tag before after
ReleaseActs count lock tag before after answered.NotHeld =
    ReleaseRefused count lock tag before after release.NotHeld
ReleaseActs count lock tag before after answered.NoLock =
    ReleaseRefused count lock tag before after release.NoLock
ReleaseActs count lock tag before after other = ⊥

-- the beginning of a removal
abbrev pub BeginActs : ℕ → ℕ → ℕ → Holder → Holder → WordReply → Type 0
BeginActs count lock tag before after answered.Done = Begun count lock tag before after
BeginActs count lock tag before after answered.NotHeld =
    BeginRefused count lock tag before after begin.NotHeld
BeginActs count lock tag before after answered.AlreadyRemoving =
    BeginRefused count lock tag before after begin.AlreadyRemoving
BeginActs count lock tag before after answered.NoLock =
    BeginRefused count lock tag before after begin.NoLock
BeginActs count lock tag before after other = ⊥

-- the question whether a lock is drained
abbrev pub DrainActs : ℕ → ℕ → Holder → Holder → WordReply → Type 0
DrainActs count lock before after answered.Yes = Looked count lock 1 before after
DrainActs count lock before after (answered.Busy found) =
    DrainRefused count lock before after (drain.Busy found)
DrainActs count lock before after answered.NoLock =
    DrainRefused count lock before after drain.NoLock
DrainActs count lock before after other = ⊥

-- an act did to the seat what remove locks, so many of them, do where it is answered so
abbrev pub Acts : ℕ → LockAct → Holder → Holder → WordReply → Type 0
Acts count (Acquire lock tag) before after reply = AcquireActs count lock.0 tag before after reply
Acts count (Release lock tag) before after reply = ReleaseActs count lock.0 tag before after reply
Acts count (BeginRemove lock tag) before after reply = BeginActs count lock.0 tag before after reply
Acts count (Drained lock) before after reply = DrainActs count lock.0 before after reply

-- a hand did that to the seat that gives and the one that takes
abbrev pub HandActs : ℕ → ℕ → ℕ → Holder → Holder → Holder → Holder → WordReply → Type 0
HandActs count lock tag giver giver_after taker taker_after answered.Done =
    Handed count lock tag giver giver_after taker taker_after
HandActs count lock tag giver giver_after taker taker_after answered.NoLock =
    HandRefused count lock tag giver giver_after taker taker_after hand.NoLock
HandActs count lock tag giver giver_after taker taker_after answered.NotHeld =
    HandRefused count lock tag giver giver_after taker taker_after hand.NotHeld
HandActs count lock tag giver giver_after taker taker_after answered.SeatFull =
    HandRefused count lock tag giver giver_after taker taker_after hand.SeatFull
HandActs count lock tag giver giver_after taker taker_after other = ⊥

-- the act of a step of this place on a slot did that, of the packet that it names by what is known of the labels
abbrev pub SlotActs : ℕ → Known → Known → StepAct → SlotAct → AtSlots → AtSlots → WordReply → Type 0
SlotActs place known learnt act (Publish slot) before after reply =
    (packet : NamedPacket) × IsNamed known act packet × (learnt ≡ known_reading place known act packet)
    × Publishing slot packet.irp.use_no before after reply
SlotActs place known learnt act (Withdraw slot) before after reply =
    (learnt ≡ known) × Withdrawing slot before after reply
SlotActs place known learnt act (Request slot) before after reply =
    (learnt ≡ known) × Requesting slot before after reply
