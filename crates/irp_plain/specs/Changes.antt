-- What an atomic step changes, at remove locks and cancel slots.
use Rattle.std.specs.Prelude.{ℕ, ◌+◌, ◌-◌, ◌%◌, ◌^◌, ◌==◌, true, false, if◌then◌else◌, nat_lt, nat_le, List, length, slice_get, position, Some, None, is_some}
use Rattle.std.specs.List.{list_any}
use Rattle.std.specs.Option.{option_map_or}
use Rattle.irp_types.specs.declared.names.IrpRef.{IrpRef}
use Rattle.irp_types.specs.declared.seat_act.Hand.{Hand}
use Rattle.irp_types.specs.declared.seat_act.LockAct.{LockAct}
use Rattle.irp_types.specs.declared.seat_act.LockAct.TheVariants.{Acquire, Release, BeginRemove, Drained as AsksDrained}
use Rattle.irp_transcript.specs.declared.word_line.WordReply.{WordReply}
use Rattle.irp_transcript.specs.declared.word_line.WordReply.TheVariants as reply
use Rattle.irp_plain.specs.declared.parts.Stage.{Stage}
use Rattle.irp_plain.specs.declared.parts.Stage.TheVariants as stages
use Rattle.irp_plain.specs.declared.parts.Learned.TheVariants.{Removed, Drained}
use Rattle.irp_plain.specs.declared.parts.Slot.{Slot}
use Rattle.irp_plain.specs.declared.parts.After.{After}
use Rattle.irp_plain.specs.declared.parts.After.TheVariants.{In, Told, Bound}
use Rattle.irp_plain.specs.declared.parts.Change.{Change}
use Rattle.irp_plain.specs.declared.answered.Answered.TheVariants.{Word}
use Rattle.irp_plain.specs.Seats.{SeatValue, is_held, is_removed}

-- how many references a seat may hold
abbrev pub most_held : ℕ
most_held = 64

-- nothing changes but how far the seat is
abbrev pub only : After → Change
only after = record {
  after = after;
  word = None;
  slot = None;
  label = None;
  drops = None;
  holds = None;
  gives = None;
  learns = None;
  spends = None;
  takes = None;
}

-- the seat is answered so, and nothing else changes
abbrev pub told : WordReply → Change
told answer = only (Told (Word answer))

-- the label stands for this packet from now on, and the act is over
abbrev pub bound : ℕ → IrpRef → Change
bound label irp = record (only Bound) { label = Some (record { label = label; irp = irp }) }

-- ---- remove locks

-- a word that 2 was added to; no script gets to such a word that it isn't
abbrev pub added : ℕ → ℕ
added word = if nat_le (2 ^ 62) word then word else word + 2

-- a word that 2 was taken from
abbrev pub taken_from : ℕ → ℕ
taken_from word = if nat_lt word 2 then word else word - 2

-- a word with its removed bit set
abbrev pub with_bit : ℕ → ℕ
with_bit word = if word % 2 == 0 then word + 1 else word

-- an acquire adds to the word: it holds the lock where the removal hasn't begun, and else has to take that back
abbrev pub acquire : ℕ → ℕ → ℕ → Change
acquire word lock tag =
    if word % 2 == 0 then record (told reply.Acquired) {
      word = Some (record { lock = lock; word = added word });
      holds = Some (record { lock = lock; tag = tag });
    }
    else record (only (In stages.Tried)) { word = Some (record { lock = lock; word = added word }) }

-- an acquire's next step: refusals without a step come first
abbrev pub acquiring_anew : ℕ → SeatValue → ℕ → ℕ → Change
acquiring_anew word seat lock tag =
    if nat_le most_held (length seat.held) then told reply.SeatFull
    else (if list_any (is_removed lock) seat.learned then told reply.DeletePending else acquire word lock tag)

abbrev pub acquiring_at : Stage → ℕ → SeatValue → ℕ → ℕ → Change
acquiring_at stages.Tried word seat lock tag =
    record (told reply.DeletePending) { word = Some (record { lock = lock; word = taken_from word }) }
acquiring_at other word seat lock tag = acquiring_anew word seat lock tag

abbrev pub acquiring : ℕ → SeatValue → ℕ → ℕ → Change
acquiring word seat lock tag = acquiring_at seat.stage word seat lock tag

-- the reference at a place is given back
abbrev pub given_back : ℕ → ℕ → ℕ → Change
given_back word lock place = record (told reply.Done) {
  word = Some (record { lock = lock; word = taken_from word });
  drops = Some place;
}

-- the first reference under a tag is given back, where there is one
abbrev pub releasing : ℕ → SeatValue → ℕ → ℕ → Change
releasing word seat lock tag =
    option_map_or (λ place. given_back word lock place) (position (is_held lock tag) seat.held) (told reply.NotHeld)

-- a begin-remove sets the bit, and learns whether it was set before
abbrev pub begin : ℕ → ℕ → Change
begin word lock =
    record (only (if word % 2 == 0 then In stages.Begun else Told (Word reply.AlreadyRemoving))) {
      word = Some (record { lock = lock; word = with_bit word });
      learns = Some (Removed lock);
    }

-- a begin-remove's next step: it sets the bit, and then gives the reference back
abbrev pub beginning_at : Stage → ℕ → SeatValue → ℕ → ℕ → Change
beginning_at stages.Begun word seat lock tag = releasing word seat lock tag
beginning_at other word seat lock tag =
    if is_some (position (is_held lock tag) seat.held) then begin word lock else told reply.NotHeld

abbrev pub beginning : ℕ → SeatValue → ℕ → ℕ → Change
beginning word seat lock tag = beginning_at seat.stage word seat lock tag

-- a look reads the word: the lock is drained where that is 1
abbrev pub looking : ℕ → ℕ → Change
looking word lock =
    if word == 1 then record (told reply.Yes) { learns = Some (Drained lock) } else told (reply.Busy word)

abbrev pub on_word : ℕ → SeatValue → LockAct → Change
on_word word seat (Acquire lock tag) = acquiring word seat lock.0 tag
on_word word seat (Release lock tag) = releasing word seat lock.0 tag
on_word word seat (BeginRemove lock tag) = beginning word seat lock.0 tag
on_word word seat (AsksDrained lock) = looking word lock.0

-- the lock of an act
abbrev pub lock_of : LockAct → ℕ
lock_of (Acquire lock tag) = lock.0
lock_of (Release lock tag) = lock.0
lock_of (BeginRemove lock tag) = lock.0
lock_of (AsksDrained lock) = lock.0

-- what an act on a remove lock changes in its next step
abbrev pub on_lock : List ℕ → SeatValue → LockAct → Change
on_lock words seat act =
    option_map_or (λ word. on_word word seat act) (slice_get words (lock_of act)) (told reply.NoLock)

-- the reference at a place is handed over, where the other seat holds fewer than it may
abbrev pub handing : Hand → ℕ → ℕ → Change
handing hand place taker_holds =
    if nat_le most_held taker_holds then told reply.SeatFull
    else record (told reply.Done) {
      drops = Some place;
      gives = Some (record { seat = hand.to; held = record { lock = hand.lock.0; tag = hand.tag } });
    }

-- how many references a seat holds
abbrev pub count_held : List SeatValue → ℕ → ℕ
count_held seats seat = option_map_or (λ (own : SeatValue). length own.held) (slice_get seats seat) 0

-- what a hand changes
abbrev pub hand : List ℕ → List SeatValue → SeatValue → Hand → Change
hand words seats seat act =
    if nat_le (length words) act.lock.0 then told reply.NoLock
    else option_map_or (λ place. handing act place (count_held seats act.to))
    (position (is_held act.lock.0 act.tag) seat.held) (told reply.NotHeld)

-- ---- cancel slots

-- 0 is swapped in: what stood in the slot is taken, and where nothing did the answer is this
abbrev pub take_out : ℕ → Slot → WordReply → Change
take_out number slot missed =
    if slot.content == 0 then record (told missed) {
      slot = Some (record { number = number; slot = record slot { content = 0 } });
    }
    else record (told (reply.Taken slot.content)) {
      slot = Some (record { number = number; slot = record slot { content = 0 } });
      takes = Some (record { slot = number; use_no = slot.content });
    }

-- the use is swapped in, where the owner hasn't published before
abbrev pub swap_in : ℕ → Slot → ℕ → Change
swap_in number slot use_no =
    if slot.used then told reply.Used
    else record (only (In stages.Published)) {
      slot = Some (record { number = number; slot = record slot { content = use_no; used = true } });
    }

-- the flag is read: the use stands where it is clear
abbrev pub check : ℕ → Slot → Change
check number slot =
    if slot.flag then only (In stages.FoundSet)
    else record (told reply.Standing) {
      slot = Some (record { number = number; slot = record slot { stands = true } });
    }

-- a publication swaps the use in, then reads the flag, and where that is set swaps 0 in
abbrev pub publishing : ℕ → Slot → Stage → ℕ → Change
publishing number slot stages.Published use_no = check number slot
publishing number slot stages.FoundSet use_no = take_out number slot reply.Lost
publishing number slot other use_no = swap_in number slot use_no

abbrev pub publish : List Slot → ℕ → Stage → ℕ → Change
publish slots number stage use_no =
    option_map_or (λ (slot : Slot). publishing number slot stage use_no) (slice_get slots number) (told reply.NoSlot)

-- a withdrawal swaps 0 in where the owner's use stands
abbrev pub withdraw : List Slot → ℕ → Change
withdraw slots number =
    option_map_or
    (λ (slot : Slot).
    if slot.stands then take_out number (record slot { stands = false }) reply.Lost else told reply.NotStanding)
    (slice_get slots number) (told reply.NotStanding)

-- a request sets the flag, and then swaps 0 in
abbrev pub requesting : ℕ → Slot → Stage → Change
requesting number slot stages.Flagged = take_out number slot reply.Nothing
requesting number slot other = record (only (In stages.Flagged)) {
  slot = Some (record { number = number; slot = record slot { flag = true } });
}

abbrev pub request : List Slot → ℕ → Stage → Change
request slots number stage =
    option_map_or (λ (slot : Slot). requesting number slot stage) (slice_get slots number) (told reply.NoSlot)
