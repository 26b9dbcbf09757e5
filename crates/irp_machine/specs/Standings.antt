-- Where a script stands between two atomic steps, and what a change makes of that.
use Rattle.std.specs.Prelude.{ℕ, ◌≡◌, Bool, List, [], Option, Some, None, slice_index_or}
use Rattle.std.specs.List.{fold}
use Rattle.irp_types.specs.State.{StateValue, Fixed, LivePacket, opening_state}
use Rattle.irp_types.specs.Standing.{StandingFacts}
use Rattle.irp_types.specs.declared.names.IrpRef.{IrpRef}
use Rattle.irp_manager.specs.ManagerStates.{state_of}
use Rattle.irp_manager.specs.Slots.{live_of}
use Rattle.irp_manager.specs.declared.manager_state.ManagerState.{ManagerState}
use Rattle.irp_plain.specs.declared.parts.ActPlace.{ActPlace}
use Rattle.irp_plain.specs.declared.parts.Change.{Change}
use Rattle.irp_plain.specs.declared.parts.Given.{Given}
use Rattle.irp_plain.specs.declared.parts.NewLabel.{NewLabel}
use Rattle.irp_plain.specs.declared.parts.NewSlot.{NewSlot}
use Rattle.irp_plain.specs.declared.parts.NewWord.{NewWord}
use Rattle.irp_plain.specs.declared.parts.Slot.{Slot}
use Rattle.irp_plain.specs.Lists.{with_item}
use Rattle.irp_machine.specs.declared.terms.Terms.{Terms}
use Rattle.irp_machine.specs.Marks.{with_number, label_mark, slot_mark, seat_mark}
use Rattle.irp_plain.specs.Seats.{SeatValue, new_seat, after_step, with_held}

-- the manager's state; and the slots that were freed and have no packet since, the one that was freed last at the end
pub record ManagerValue : Type 0 where
  pub state : StateValue
  pub freed : List ℕ

-- a manager that nobody has called
abbrev pub opening_manager : ManagerValue
opening_manager = record { state = opening_state; freed = [] }

-- what a manager is, with these slots freed
abbrev pub managed : ManagerState (List (Option LivePacket)) → List ℕ → ManagerValue
managed manager freed = record { state = state_of live_of manager; freed = freed }

-- the manager, what each label stands for, the words of the remove locks, the cancel slots, and the seats
pub record StandingValue : Type 0 where
  pub manager : ManagerValue
  pub labels : List IrpRef
  pub words : List ℕ
  pub slots : List Slot
  pub seats : List SeatValue

-- a manager stands by what a header tells it: how many closures there are, how many remove locks, and the limit
pub record StandsBy (terms : Terms) (manager : ManagerState (List (Option LivePacket))) : Type 0 where
  pub facts : StandingFacts terms.counts (state_of live_of manager)
  pub locks : terms.locks ≡ manager.locks
  pub limit : terms.limit ≡ manager.stacks.limit

-- what a header tells a manager
abbrev pub terms_of : Fixed → Terms
terms_of fixed = record { counts = fixed.tables.counts; locks = fixed.locks; limit = fixed.limit }

-- another word of a lock, where one is named
abbrev pub with_word : Option NewWord → List ℕ → List ℕ
with_word None words = words
with_word (Some word) words = with_item word.lock word.word words

-- another state of a slot, where one is named
abbrev pub with_slot : Option NewSlot → List Slot → List Slot
with_slot None slots = slots
with_slot (Some slot) slots = with_item slot.number slot.slot slots

-- another packet for a label, where one is named
abbrev pub with_label : Option NewLabel → List IrpRef → List IrpRef
with_label None labels = labels
with_label (Some label) labels = with_item label.label label.irp labels

-- a seat behind a step of its own, in the act at this place
abbrev pub with_seat_changed : ℕ → Change → ActPlace → Bool → List SeatValue → List SeatValue
with_seat_changed seat change place tells seats =
    with_item seat (after_step change place tells (slice_index_or seats seat new_seat)) seats

-- a seat that was given a reference, where one is given
abbrev pub with_given : Option Given → List SeatValue → List SeatValue
with_given None seats = seats
with_given (Some given) seats =
    with_item given.seat (with_held given.held (slice_index_or seats given.seat new_seat)) seats

-- where the script stands with another manager
abbrev pub with_manager : StandingValue → ManagerValue → StandingValue
with_manager standing manager = record standing { manager = manager }

-- where the script stands behind an atomic step of a seat that changes this, in the act at this place
abbrev pub after_change : ℕ → Change → ActPlace → Bool → StandingValue → StandingValue
after_change seat change place tells old = record {
  manager = old.manager;
  labels = with_label change.label old.labels;
  words = with_word change.word old.words;
  slots = with_slot change.slot old.slots;
  seats = with_given change.gives (with_seat_changed seat change place tells old.seats);
}

-- the mark of a standing: behind its seats, freed slots, labels, words and cancel slots, one after another
abbrev pub standing_mark : StandingValue → ℕ
standing_mark standing =
    let seats : ℕ = fold seat_mark 0 standing.seats in
    let freed : ℕ = fold with_number seats standing.manager.freed in
    let labels : ℕ = fold label_mark freed standing.labels in
    fold slot_mark (fold with_number labels standing.words) standing.slots
