-- What clauses read of a script's seats.
use Rattle.std.specs.Prelude.{ℕ, ◌≡◌, List, [], map}
use Rattle.std.specs.List.{flat_map}
use Rattle.irp_manager.specs.Seats.{Seated}
use Rattle.irp_remove.specs.Pairing.{IsSeatOf}
use Rattle.irp_remove.specs.Seats.{Holder}
use Rattle.irp_remove.specs.declared.table.Locks.{Locks}
use Rattle.irp_slots.specs.Models.{Asker, Publisher}
use Rattle.irp_slots.specs.Pairing.{IsCancellerOf, slot_count}
use Rattle.irp_slots.specs.declared.table.Slots.{Slots}
use Rattle.irp_script.specs.AtSlots.{AtSlots, IsFresh}
use Rattle.irp_script.specs.declared.script_seat.ScriptSeat.{ScriptSeat}
use Rattle.irp_script.specs.Pairs.{Pair, pair_of}
use Rattle.irp_script.specs.Working.{AtWork, at_work}

-- ---- of one seat

-- its number, that of the seat in which it makes calls
abbrev pub number_of : {L : _} {session : _} → ScriptSeat L session → ℕ
number_of own = own.seat.number

-- which two seats it has
abbrev pub pair_in : {L : _} {session : _} → ScriptSeat L session → Pair
pair_in own = pair_of own.seat own.remove

-- what steps change of it
abbrev pub seat_at_work : {L : _} {session : _} → ScriptSeat L session → AtWork
seat_at_work own = at_work own.seat own.remove own.parties

-- its remove seat was opened with these locks
abbrev pub IsAtLocks : {L : _} {session : _}
    → Locks → ScriptSeat L session → Type 0
IsAtLocks locks own = IsSeatOf locks own.remove

-- its canceller was opened with these slots
abbrev pub IsAtSlots : {L : _} {session : _}
    → Slots → ScriptSeat L session → Type 0
IsAtSlots slots own = IsCancellerOf slots own.parties.canceller

-- its parties at these slots have been given nothing and have taken nothing
abbrev pub IsFreshAt : {L : _} {session : _}
    → Slots → ScriptSeat L session → Type 0
IsFreshAt slots own = IsFresh (slot_count slots) own.parties

-- they have taken nothing out of a slot
abbrev pub HasTakenNothing : {L : _} {session : _}
    → ScriptSeat L session → Type 0
HasTakenNothing own = own.parties.taken ≡ []

-- they have as many slots as there are of these
abbrev pub HasAllSlots : {L : _} {session : _}
    → Slots → ScriptSeat L session → Type 0
HasAllSlots slots own = own.parties.slots ≡ slot_count slots

-- ---- of all seats, in order

abbrev pub numbers_of : {L : _} {session : _}
    → List (ScriptSeat L session) → List ℕ
numbers_of all = map number_of all

abbrev pub pairs_of : {L : _} {session : _}
    → List (ScriptSeat L session) → List Pair
pairs_of all = map pair_in all

abbrev pub seats_at_work : {L : _} {session : _}
    → List (ScriptSeat L session) → List AtWork
seats_at_work all = map seat_at_work all

-- the seats in which they make calls
abbrev pub seats_of : {L : _} {session : _}
    → List (ScriptSeat L session) → List Seated
seats_of all = map (λ own. own.seat) all

-- their remove seats
abbrev pub removes_of : {L : _} {session : _}
    → List (ScriptSeat L session) → List Holder
removes_of all = map (λ own. own.remove) all

-- what they have at the slots: all of it, their cancellers, and the owners of all of them together
abbrev pub parties_of : {L : _} {session : _}
    → List (ScriptSeat L session) → List AtSlots
parties_of all = map (λ own. own.parties) all

abbrev pub cancellers_of : {L : _} {session : _}
    → List (ScriptSeat L session) → List Asker
cancellers_of all = map (λ own. own.parties.canceller) all

abbrev pub owners_of : {L : _} {session : _}
    → List (ScriptSeat L session) → List Publisher
owners_of all = flat_map (λ own. own.parties.owners) all
