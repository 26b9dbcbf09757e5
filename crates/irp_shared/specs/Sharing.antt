-- What a call makes of a seat.
use Rattle.std.specs.Prelude.{ℕ, ◌≡◌, ◌<◌, ◌≤◌, Bool, true, false, if◌then◌else◌, Option, Some, None, List}
use Rattle.std.specs.Prelude.{length}
use Rattle.irp_types.specs.declared.names.LockNo.{LockNo}
use Rattle.irp_types.specs.Calls.{Call}
use Rattle.irp_types.specs.declared.reply.Reply.{Reply}
use Rattle.irp_types.specs.declared.reply.Reply.TheVariants as reply
use Rattle.irp_slots.specs.declared.answers.Token.{Token}
use Rattle.irp_types.specs.State.{Fixed}
use Rattle.irp_types.specs.Histories.{IsLegal}
use Rattle.irp_types.specs.declared.asked.Asked.{Asked}
use Rattle.irp_types.specs.declared.entry.Entry.{Entry}
use Rattle.irp_manager.specs.Seats.{Seated}
use Rattle.irp_manager.specs.Booked.{Receipted, CalledIn, most_entries}
use Rattle.irp_shared.specs.Answered.{EachAnswered}

-- whether a reply is Done
abbrev pub is_done : Reply → Bool
is_done reply.Done = true
is_done other = false

-- the token that comes back: none where the packet was finished
abbrev pub given_back : Reply → Token → Option Token
given_back answered token = if is_done answered then None else Some token

-- the seat made a recorded call, and keeps its entry. The receipt has the session's history up to that entry, which
-- stands there at its number
pub record Called (seat : Seated) (call : Call) (knows : LockNo → Bool) (receipt : Receipted) (after : Seated)
    : Type 0 where
  pub before : List Entry
  pub recorded : CalledIn before receipt.history seat call knows receipt after

-- the seat says what it said
pub record IsAsBefore (old new : Seated) : Type 0 where
  pub number : new.number ≡ old.number
  pub entries : new.entries ≡ old.entries
  pub seen : new.seen ≡ old.seen

-- the history is only this long, which is shorter than what the seat has seen
abbrev pub IsBehind : List Entry → Seated → ℕ → Type 0
IsBehind history seat told = (told ≡ length history) × (told < seat.seen)

-- the history has all that the seat has seen, and as many entries as there may be
abbrev pub IsFull : List Entry → Seated → Type 0
IsFull history seat = (seat.seen ≤ length history) × (length history ≡ most_entries)

-- A legal history of a session, whose questions were answered as they may be, has as many entries as there may be, and all
-- that was seen. (The session's own history lies under its lock, so no clause of a caller names it)
pub record FindsFull (fixed : Fixed) (may : Asked → Type 0) (seen : ℕ) : Type 0 where
  pub history : List Entry
  pub legal : IsLegal fixed history
  pub answered : EachAnswered may history
  pub reached : seen ≤ length history
  pub full : length history ≡ most_entries
