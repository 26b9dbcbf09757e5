-- What closing a session compares, and what it gives.
use Rattle.std.specs.Prelude.{ℕ, ◌≡◌, ◌<◌, ◌==◌, true, List, [], length, All, Option, Some, slice_get, sum_by}
use Rattle.std.specs.List.{list_any}
use Rattle.std.specs.Option.{option_and_then}
use Rattle.irp_types.specs.State.{Fixed}
use Rattle.irp_types.specs.Histories.{IsLegal, CompletesOnce, own_entries}
use Rattle.irp_types.specs.declared.asked.Asked.{Asked}
use Rattle.irp_types.specs.declared.entry.Entry.{Entry}
use Rattle.irp_manager.specs.Seats.{Seated}
use Rattle.irp_transcript.specs.Headers.{fixed_of, slots_of}
use Rattle.irp_transcript.specs.Transcripts.{TranscriptValue}
use Rattle.irp_shared.specs.Answered.{EachAnswered}
use Rattle.irp_shared.specs.declared.closing.Difference.{Difference}
use Rattle.irp_shared.specs.declared.closing.Parting.{Parting}
use Rattle.irp_transcript.specs.declared.header.Header.{Header}

-- as many seats as were opened, and each number among them: so each of them once
abbrev pub AllHere : List Seated → ℕ → Type 0
AllHere seats expected =
    (length seats ≡ expected)
    × ((number : ℕ) → number < expected → list_any (λ (seat : Seated). seat.number == number) seats ≡ true)

-- how many entries a seat has
abbrev pub count_of : Seated → ℕ
count_of seat = length seat.entries

-- the seat's entries are the history's entries with its number, in order
abbrev pub IsKept : List Entry → Seated → Type 0
IsKept history seat = own_entries history seat.number ≡ seat.entries

-- the entry at this place of a history, if there is a place
abbrev pub entry_at : List Entry → Option ℕ → Option Entry
entry_at history place = option_and_then (slice_get history) place

-- what the history has at that place (none where there is no place) is another than what was kept (none where nothing
-- was)
abbrev pub IsOther : List Entry → Option Entry → Option ℕ → Type 0
IsOther history kept place = kept ≡ entry_at history place → ⊥

-- what the history has at this place (none where there is no place) is the entry at this index among a seat's own
abbrev pub StandsThere : List Entry → ℕ → ℕ → Option ℕ → Type 0
StandsThere history seat index place = entry_at history place ≡ slice_get (own_entries history seat) index

-- one of the seats has this number, and kept this at this index
pub record Kept (seats : List Seated) (number index : ℕ) (kept : Option Entry) : Type 0 where
  pub place : ℕ
  pub seat : Seated
  pub given : slice_get seats place ≡ Some seat
  pub numbered : seat.number ≡ number
  pub kept_there : kept ≡ slice_get seat.entries index

-- the entries part there from the history: what stands at the place is another than the entry at the index
abbrev pub PartsFrom : List Entry → List Entry → Parting → Type 0
PartsFrom history entries parting = IsOther history (slice_get entries parting.index) parting.place

-- what stands at the place is what the history has of this seat at the index
abbrev pub PartsAt : List Entry → ℕ → Parting → Type 0
PartsAt history seat parting = StandsThere history seat parting.index parting.place

-- this seat has what was kept at the index, and the entry at the place is another
abbrev pub IsOfSeat : List Entry → Seated → Difference → Type 0
IsOfSeat history seat difference =
    (difference.seat ≡ seat.number)
    × (difference.kept ≡ slice_get seat.entries difference.index)
    × IsOther history difference.kept difference.place

-- what stands at the place is what the history has of the difference's seat at the index
abbrev pub IsInPlace : List Entry → Difference → Type 0
IsInPlace history difference = StandsThere history difference.seat difference.index difference.place

-- one of the seats kept this at this index, and what the history has of it there is another
abbrev pub Differs : List Seated → List Entry → Difference → Type 0
Differs seats history difference =
    Kept seats difference.seat difference.index difference.kept
    × IsOther history difference.kept difference.place
    × IsInPlace history difference

-- a legal history with as many entries as these seats have, whose questions were answered as they may be, has this at
-- the index among the entries of a seat
pub record Found (fixed : Fixed) (may : Asked → Type 0) (seats : List Seated) (number index : ℕ)
    (found : Option Entry) : Type 0 where
  pub history : List Entry
  pub legal : IsLegal fixed history
  pub answered : EachAnswered may history
  pub counts : sum_by count_of seats ≡ length history
  pub found_there : found ≡ slice_get (own_entries history number) index

-- each entry is of a seat with a number below this one
abbrev pub AreSeated : ℕ → List Entry → Type 0
AreSeated seats history = All (λ (entry : Entry). entry.seat < seats) history

-- closing gives a transcript: its header tells what the session had fixed, how many seats it had, and no cancel slots;
-- its history is legal and completes each use at most once, each entry is of one of the seats, each seat kept the
-- history's entries of its own, and the counts add up
pub record Closes (fixed : Fixed) (expected : ℕ) (seats : List Seated) (transcript : TranscriptValue) : Type 0 where
  pub header : Header
  pub told : transcript.header ≡ Some header
  pub tables : fixed_of header ≡ fixed
  pub seats_told : header.seats ≡ expected
  pub no_slots : slots_of header.form ≡ 0
  pub no_words : transcript.words ≡ []
  pub legal : IsLegal fixed transcript.entries
  pub once : CompletesOnce fixed transcript.entries
  pub all_here : AllHere seats expected
  pub seated : AreSeated expected transcript.entries
  pub own : All (IsKept transcript.entries) seats
  pub counts : sum_by count_of seats ≡ length transcript.entries
