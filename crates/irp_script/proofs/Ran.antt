-- From what opening, pairing, working and closing say to what ran.
use Rattle.std.proofs.Common.{◌≡◌, ℕ, All, List, [], length, refl, sym, ap, ◌∙◌, subst, map}
use Rattle.std.specs.Prelude.{Option, Some, None, slice_get}
use Rattle.std.specs.List.{count_by}
use Rattle.std.specs.Option.{option_map}
use Rattle.std.proofs.lemmas.List.{length-map}
use Rattle.std.proofs.lemmas.List.Elements.{All-map}
use Rattle.std.proofs.lemmas.List.Folds.{flat_map-map}
use Rattle.std.proofs.lemmas.Option.{none-some, same_Some, slice_get-map}
use Rattle.std.proofs.lemmas.Simd.{map-map}
use Rattle.atomic_table.specs.Seated.{TableId}
use Rattle.irp_types.specs.State.{Fixed}
use Rattle.irp_manager.specs.Seats.{Seated}
use Rattle.irp_remove.specs.Opening.{AreFresh}
use Rattle.irp_remove.specs.Seats.{Holder}
use Rattle.irp_slots.specs.Models.{Asker, Publisher}
use Rattle.irp_slots.specs.Opening.{AreFreshOwners, IsFreshCanceller}
use Rattle.irp_script.specs.AtSlots.{OwnTheirSlots}
use Rattle.irp_shared.specs.Closing.{IsKept}
use Rattle.irp_shared.specs.Opening.{AreNew, IsNew}
use Rattle.irp_transcript.specs.Transcripts.{TranscriptValue}
use Rattle.irp_script_reader.specs.Forms.{slots_of}
use Rattle.irp_script_reader.specs.declared.script.Script.{Script}
use Rattle.irp_script.specs.Numbers.{EachAsOften}
use Rattle.irp_script.specs.Ran.{AreOpened, Ran, parties_in}
use Rattle.irp_script.specs.Seats.{HasTakenNothing, cancellers_of, owners_of, parties_of, removes_of, seat_at_work, seats_at_work, seats_of}
use Rattle.irp_script.specs.Stops.{terms_of}
use Rattle.irp_script.specs.Told.{IsTold}
use Rattle.irp_script.specs.Working.{RunsScript, roomless}
use Rattle.irp_script.specs.declared.stop.Stop.{Stop}
use Rattle.irp_script.specs.declared.script_seat.ScriptSeat.{ScriptSeat}
use Rattle.irp_script.proofs.Numbers.{count_map}

-- ---- whatever room seats have

roomless_new : (number : ℕ) (seat : Seated) → IsNew number seat → IsNew number (roomless seat)
roomless_new number seat new = record { numbered = new.numbered; unseen = new.unseen; empty = new.empty }

new_there : (number : ℕ) (seat : Seated) (found : Option Seated) → ((one : Seated) → found ≡ Some one → IsNew number one) → option_map roomless found ≡ Some seat → IsNew number seat
new_there number seat None new is = absurd (none-some seat is)
new_there number seat (Some one) new is = subst (IsNew number) (same_Some (roomless one) seat is) (roomless_new number one (new one refl))

-- new seats are new without their room
all_new : (count : ℕ) (seats : List Seated) → AreNew count seats → AreNew count (map roomless seats)
all_new count seats new = record {
  counted = length-map seats roomless ∙ new.counted;
  each = λ number seat there.
      new_there number seat (slice_get seats number) (new.each number) (sym (slice_get-map roomless seats number) ∙ there);
}

-- the seats at work are those of the script, without their room
at_work_seats : {L : _} {session : _} (all : List (ScriptSeat L session)) → map (λ own. own.seat) (seats_at_work all) ≡ map roomless (seats_of all)
at_work_seats all = map-map (λ own. own.seat) seat_at_work all ∙ sym (map-map roomless (λ own. own.seat) all)

-- ---- as they are opened

own_slots : {L : _} {session : _} (all : List (ScriptSeat L session)) (count seats : ℕ) → count ≡ seats → OwnTheirSlots count (parties_of all) → OwnTheirSlots seats (parties_in (seats_at_work all))
own_slots all count seats same own =
    subst (λ many. OwnTheirSlots many (parties_in (seats_at_work all))) same
    (subst (OwnTheirSlots count) (sym (map-map (λ own. own.parties) seat_at_work all)) own)

pub all_opened : {L : _} {session : _} (script : Script) (all : List (ScriptSeat L session)) (opened : List Seated) (removes : List Holder) (cancellers : List Asker) (owners : List Publisher) (lock_table slot_table : TableId) (count slots : ℕ)
    → AreNew script.seats opened → seats_of all ≡ opened
    → AreFresh lock_table script.seats removes → removes_of all ≡ removes
    → All (IsFreshCanceller slot_table) cancellers → cancellers_of all ≡ cancellers
    → slots ≡ slots_of script.form → All (λ own. own.parties.slots ≡ slots) all
    → AreFreshOwners slot_table slots owners → EachAsOften owners (owners_of all)
    → count ≡ script.seats → OwnTheirSlots count (parties_of all)
    → All HasTakenNothing all
    → AreOpened script (seats_at_work all)
all_opened script all opened removes cancellers owners lock_table slot_table count slots new seats_are fresh removes_are unasked cancellers_are many counted unpublished given same own untaken =
    record {
      new = subst (AreNew script.seats) (sym (at_work_seats all ∙ ap (map roomless) seats_are)) (all_new script.seats opened new);
      lock_table = lock_table;
      idle = subst (AreFresh lock_table script.seats) (sym (map-map (λ own. own.remove) seat_at_work all ∙ removes_are)) fresh;
      slot_table = slot_table;
      counted = All-map (λ own. own.parties.slots ≡ slots_of script.form) seat_at_work all (λ k d lt. counted k d lt ∙ many);
      unasked = subst (All (IsFreshCanceller slot_table)) (sym (map-map (λ own. own.parties.canceller) seat_at_work all ∙ cancellers_are)) unasked;
      owners = owners;
      unpublished = subst (λ few. AreFreshOwners slot_table few owners) many unpublished;
      given = λ test. ap (count_by test) (flat_map-map (λ own. own.parties.owners) seat_at_work all) ∙ given test;
      own = own_slots all count script.seats same own;
      untaken = All-map (λ own. own.parties.taken ≡ []) seat_at_work all untaken;
    }

-- ---- as they are closed

pub closed_ran : {L : _} {session : _} (workers : ℕ) (script : Script) (fixed : Fixed) (before after : List (ScriptSeat L session)) (closed : List Seated) (transcript : TranscriptValue) (stopped : Option Stop)
    → AreOpened script (seats_at_work before)
    → RunsScript (terms_of fixed (IsTold script)) workers (length script.labels) script.setup script.steps (seats_at_work before) (seats_at_work after) transcript.words stopped
    → EachAsOften (seats_of after) closed → All (IsKept transcript.entries) closed
    → Ran workers script fixed transcript stopped
closed_ran workers script fixed before after closed transcript stopped opened made back kept =
    record {
      before = seats_at_work before;
      after = seats_at_work after;
      opened = opened;
      made = made;
      closed = map roomless closed;
      back = λ test. count_map roomless test closed ∙ back (λ seat. test (roomless seat)) ∙ sym (count_map roomless test (seats_of after)) ∙ sym (ap (count_by test) (at_work_seats after));
      kept = All-map (IsKept transcript.entries) roomless closed kept;
    }
