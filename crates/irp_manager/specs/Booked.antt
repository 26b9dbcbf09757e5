-- A book and a receipt as callers see them, and what recording a call does.
use Rattle.std.specs.Prelude.{ℕ, ◌≡◌, ◌<◌, ◌≤◌, Bool, true, List, [], ◌∷◌, ◌++◌, length, Option}
use Rattle.irp_types.specs.State.{Fixed}
use Rattle.irp_types.specs.declared.names.LockNo.{LockNo}
use Rattle.irp_types.specs.declared.names.DeviceId.{DeviceId}
use Rattle.irp_types.specs.Calls.{Call}
use Rattle.irp_types.specs.declared.call.Call.TheVariants.{Delete}
use Rattle.irp_types.specs.declared.reply.Reply.{Reply}
use Rattle.irp_types.specs.declared.reply.Reply.TheVariants.{Done}
use Rattle.irp_types.specs.declared.entry.Entry.{Entry}
use Rattle.irp_types.specs.declared.asked.Asked.{Asked}
use Rattle.irp_manager.specs.Notes.{known_by}
use Rattle.irp_manager.specs.ManagerStates.{most_asked}
use Rattle.irp_manager.specs.Seats.{Seated, Keeps}

-- entries that a history may have
abbrev pub most_entries : ℕ
most_entries = 1000000

-- who is asked, what is fixed, and the history
pub record Booked (A : Type 0) : Type 0 where
  pub ask : A
  pub fixed : Fixed
  pub history : List Entry

-- what a receipt tells of an entry, and the book's history as it was then, with this entry at its end
pub record Receipted : Type 0 where
  pub number : ℕ
  pub seat : ℕ
  pub call : Call
  pub lock : Option LockNo
  pub drained : Bool
  pub reply : Reply
  pub history : List Entry

-- the receipt of an entry, with the history that it ends
abbrev pub receipt_of : List Entry → Entry → Receipted
receipt_of history entry = record {
  number = entry.number;
  seat = entry.seat;
  call = entry.call;
  lock = entry.lock;
  drained = entry.drained;
  reply = entry.reply;
  history = history;
}

-- an entry is this seat's and this call's, its number is below the limit and after all that the seat had seen, its
-- `drained` is what the note knows of its lock (and it knew that it was drained, where a deletion is done), and it has
-- no more questions than such a call may ask
pub record IsCallOf (seat : Seated) (call : Call) (knows : LockNo → Bool) (entry : Entry) : Type 0 where
  pub within : entry.number < most_entries
  pub after : seat.seen ≤ entry.number
  pub by : entry.seat ≡ seat.number
  pub asks : entry.call ≡ call
  pub noted : entry.drained ≡ known_by knows entry.lock
  pub deletes : (device : DeviceId) → entry.call ≡ Delete device → entry.reply ≡ Done → entry.drained ≡ true
  pub few : length entry.asked ≤ most_asked call

-- the history grew by one entry, which is this seat's call; the receipt tells of it and of that history, and the seat
-- keeps it
pub record CalledIn (old new : List Entry) (seat : Seated) (call : Call) (knows : LockNo → Bool)
    (receipt : Receipted) (after : Seated) : Type 0 where
  pub entry : Entry
  pub appended : new ≡ old ++ entry ∷ []
  pub numbered : entry.number ≡ length old
  pub of_call : IsCallOf seat call knows entry
  pub told : receipt ≡ receipt_of new entry
  pub kept : Keeps entry seat after

-- the same, and the entry's questions were answered as they may be
pub record Records (are_answered : List Asked → Type 0) (old new : List Entry) (seat : Seated) (call : Call)
    (knows : LockNo → Bool) (receipt : Receipted) (after : Seated) : Type 0 where
  pub called : CalledIn old new seat call knows receipt after
  pub answered : are_answered called.entry.asked
