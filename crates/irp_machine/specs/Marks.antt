-- Marks: numbers by which places are sorted.
use Rattle.std.specs.Prelude.{ℕ, ◌+◌, ◌*◌, ◌%◌, ◌/◌, ◌^◌, Bool, true, false, is_some}
use Rattle.std.specs.List.{fold}
use Rattle.irp_types.specs.Refusal.{refusal_number}
use Rattle.irp_types.specs.declared.names.IrpRef.{IrpRef}
use Rattle.irp_types.specs.declared.reply.Reply.{Reply}
use Rattle.irp_types.specs.declared.reply.Reply.TheVariants as replies
use Rattle.irp_transcript.specs.declared.word_line.WordReply.{WordReply}
use Rattle.irp_transcript.specs.declared.word_line.WordReply.TheVariants as words
use Rattle.irp_plain.specs.declared.parts.Slot.{Slot}
use Rattle.irp_plain.specs.declared.parts.Stage.{Stage}
use Rattle.irp_plain.specs.declared.parts.Stage.TheVariants as stages
use Rattle.irp_plain.specs.declared.answered.Answered.{Answered}
use Rattle.irp_plain.specs.declared.answered.Answered.TheVariants.{Reply as Replied, Word}
use Rattle.irp_plain.specs.declared.answered.Told.{Told}
use Rattle.irp_plain.specs.Seats.{SeatValue}

-- a number each of whose bits hangs on most bits of another
abbrev pub stirred : ℕ → ℕ
stirred number =
    let spread : ℕ = (number * 11400714819323198485) % 2 ^ 64 in
    (spread * (spread / 2 ^ 32)) % 2 ^ 64

-- the mark behind a number
abbrev pub with_number : ℕ → ℕ → ℕ
with_number mark number = stirred ((mark + number) % 2 ^ 64)

abbrev pub label_mark : ℕ → IrpRef → ℕ
label_mark mark irp = with_number mark irp.use_no

-- 1 where something is so
abbrev pub truth_number : Bool → ℕ
truth_number true = 1
truth_number false = 0

abbrev pub slot_mark : ℕ → Slot → ℕ
slot_mark mark slot = with_number (with_number mark (truth_number slot.flag)) slot.content

-- of a reply of the manager
abbrev pub reply_number : Reply → ℕ
reply_number replies.Done = 100
reply_number (replies.Device device) = device.0
reply_number (replies.Irp irp) = irp.use_no
reply_number (replies.Status status) = status.0
reply_number (replies.Previous routine) = 200 + truth_number (is_some routine)
reply_number (replies.Cancelled asked) = 300 + truth_number asked
reply_number (replies.Seen seen) = with_number seen.status.0 seen.current
reply_number (replies.Refused refusal) = 400 + refusal_number refusal

-- of an answer of a lock or a slot
abbrev pub word_number : WordReply → ℕ
word_number (words.Busy word) = word
word_number (words.Taken use_no) = use_no
word_number words.Acquired = 501
word_number words.DeletePending = 502
word_number words.Done = 503
word_number words.SeatFull = 504
word_number words.NotHeld = 505
word_number words.AlreadyRemoving = 506
word_number words.NoLock = 507
word_number words.Yes = 508
word_number words.Standing = 509
word_number words.Lost = 510
word_number words.Nothing = 511
word_number words.Used = 512
word_number words.NotStanding = 513
word_number words.NoSlot = 514
word_number words.NoToken = 515

abbrev pub answer_number : Answered → ℕ
answer_number (Replied reply) = reply_number reply
answer_number (Word reply) = word_number reply

abbrev pub told_mark : ℕ → Told → ℕ
told_mark mark told = with_number (with_number mark told.step) (answer_number told.answer)

-- of how far a seat is in an act
abbrev pub stage_number : Stage → ℕ
stage_number stages.Between = 600
stage_number (stages.Read irp) = irp.use_no
stage_number (stages.Answered irp) = irp.use_no
stage_number stages.Tried = 601
stage_number stages.Begun = 602
stage_number stages.Published = 603
stage_number stages.FoundSet = 604
stage_number stages.Flagged = 605

-- the mark behind a seat: how far it is, and what it was told
abbrev pub seat_mark : ℕ → SeatValue → ℕ
seat_mark mark seat = fold told_mark (with_number (with_number mark seat.made) (stage_number seat.stage)) seat.told
