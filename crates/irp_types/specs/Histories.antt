-- Histories: which the sequential manager could have made, and what is read off one.
use Rattle.std.specs.Prelude.{ℕ, ◌≡◌, ◌≤◌, ◌+◌, ◌-◌, ◌==◌, Bool, false, not, ◌&&◌, List, [], ◌∷◌, ◌++◌, length, filter}
use Rattle.std.specs.Prelude.{find, slice_get, slice_index_or, Option, Some, None}
use Rattle.std.specs.Option.{option_map, option_map_or}
use Rattle.std.specs.List.{range_with_len}
use Rattle.std.specs.FinMap as fin
use Rattle.irp_types.specs.Stacks.{DeviceFacts}
use Rattle.irp_types.specs.State.{StateValue, LivePacket, Fixed, opening_state}
use Rattle.irp_types.specs.Refusals.{has_ended}
use Rattle.irp_types.specs.Steps.{Step}
use Rattle.irp_types.specs.declared.names.LockNo.{LockNo}
use Rattle.irp_types.specs.declared.entry.Entry.{Entry}
use Rattle.irp_types.specs.Calls.{Call}
use Rattle.irp_types.specs.declared.call.Call.TheVariants.{Delete}

-- the lock of the device that a Delete names, where that device was created
abbrev pub lock_of : StateValue → Call → Option LockNo
lock_of state (Delete device) =
    option_map (λ (facts : DeviceFacts). facts.lock) (slice_get state.devices.facts device.0)
lock_of state _ = None

-- an entry has this number, and its step leads from the one state to the other
pub record IsEntryAt (fixed : Fixed) (number : ℕ) (old : StateValue) (entry : Entry) (new : StateValue) : Type 0 where
  pub numbered : entry.number ≡ number
  pub lock : entry.lock ≡ lock_of old entry.call
  pub undrained : entry.lock ≡ None → entry.drained ≡ false
  pub step : Step fixed old entry.drained entry.call entry.asked entry.reply new

-- a history leads through these states: there is one more of them, the first is the opening state, and the entry at
-- each place leads from the state at that place to the next
pub record LeadsThrough (fixed : Fixed) (history : List Entry) (states : List StateValue) : Type 0 where
  pub longer : length states ≡ length history + 1
  pub opens : slice_get states 0 ≡ Some opening_state
  pub follows :
      (number : ℕ) (entry : Entry) (old new : StateValue)
      → slice_get history number ≡ Some entry
      → slice_get states number ≡ Some old
      → slice_get states (number + 1) ≡ Some new
      → IsEntryAt fixed number old entry new

-- a history that the sequential manager could have made, and the state that it ends in
abbrev pub LeadsTo : Fixed → List Entry → StateValue → Type 0
LeadsTo fixed history last =
    (states : List StateValue) × LeadsThrough fixed history states × (slice_get states (length history) ≡ Some last)

-- a history that the sequential manager could have made
abbrev pub IsLegal : Fixed → List Entry → Type 0
IsLegal fixed history = (states : List StateValue) × LeadsThrough fixed history states

-- a history goes on by one entry that follows from its last state
abbrev pub HistoryGoesOn : Type 0
HistoryGoesOn =
    (fixed : Fixed) (history : List Entry) (old : StateValue) (entry : Entry) (new : StateValue)
    → LeadsTo fixed history old → IsEntryAt fixed (length history) old entry new
    → LeadsTo fixed (history ++ entry ∷ []) new

-- an entry leads from a state to one state only
abbrev pub EntrySettlesNextState : Type 0
EntrySettlesNextState =
    (fixed : Fixed) (number : ℕ) (old : StateValue) (entry : Entry) (new other : StateValue)
    → IsEntryAt fixed number old entry new → IsEntryAt fixed number old entry other → new ≡ other

-- a history leads through one list of states only
abbrev pub HistorySettlesStates : Type 0
HistorySettlesStates =
    (fixed : Fixed) (history : List Entry) (states others : List StateValue)
    → LeadsThrough fixed history states → LeadsThrough fixed history others → states ≡ others

-- the entries of one seat, in order
abbrev pub own_entries : List Entry → ℕ → List Entry
own_entries history seat = filter (λ (entry : Entry). entry.seat == seat) history

-- the live packet of a use, where there is one
abbrev pub packet_of_use : StateValue → ℕ → Option LivePacket
packet_of_use state use_no = find (λ (live : LivePacket). live.use_no == use_no) (fin.values state.live)

-- the use's packet is live, and not ended
abbrev pub is_open : StateValue → ℕ → Bool
is_open state use_no =
    option_map_or (λ (live : LivePacket). not (has_ended live.packet.owner)) (packet_of_use state use_no) false

-- the use's packet is live, and ended
abbrev pub is_ended : StateValue → ℕ → Bool
is_ended state use_no =
    option_map_or (λ (live : LivePacket). has_ended live.packet.owner) (packet_of_use state use_no) false

-- the numbers of the entries that completed a use: before them its packet isn't ended, and after them it is
abbrev pub completions : List StateValue → ℕ → List ℕ
completions states use_no =
    filter
    (λ number. is_open (slice_index_or states number opening_state) use_no
    && is_ended (slice_index_or states (number + 1) opening_state) use_no)
    (range_with_len 0 (length states - 1))

-- in a legal history each use of a packet is completed at most once
abbrev pub HistoryCompletesOnce : Type 0
HistoryCompletesOnce =
    (fixed : Fixed) (history : List Entry) (states : List StateValue) (use_no : ℕ)
    → LeadsThrough fixed history states → length (completions states use_no) ≤ 1

-- a legal history that completes each use at most once
abbrev pub CompletesOnce : Fixed → List Entry → Type 0
CompletesOnce fixed history =
    (states : List StateValue) × LeadsThrough fixed history states
    × ((use_no : ℕ) → length (completions states use_no) ≤ 1)

-- each legal history completes each use at most once
abbrev pub LegalCompletesOnce : Type 0
LegalCompletesOnce = (fixed : Fixed) (history : List Entry) → IsLegal fixed history → CompletesOnce fixed history
