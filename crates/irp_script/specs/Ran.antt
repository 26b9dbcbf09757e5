-- What ran of a script: the chains of steps that its workers made, from the seats as they were opened to the entries
-- and word lines that the transcript has.
use Rattle.std.specs.Prelude.{ℕ, ◌≡◌, All, List, [], Option, length, map}
use Rattle.std.specs.List.{flat_map}
use Rattle.atomic_table.specs.Seated.{TableId}
use Rattle.irp_types.specs.State.{Fixed}
use Rattle.irp_manager.specs.Seats.{Seated}
use Rattle.irp_remove.specs.Opening.{AreFresh}
use Rattle.irp_remove.specs.Seats.{Holder}
use Rattle.irp_slots.specs.Models.{Asker, Publisher}
use Rattle.irp_slots.specs.Opening.{AreFreshOwners, IsFreshCanceller}
use Rattle.irp_script.specs.AtSlots.{AtSlots, OwnTheirSlots}
use Rattle.irp_shared.specs.Closing.{IsKept}
use Rattle.irp_shared.specs.Opening.{AreNew}
use Rattle.irp_transcript.specs.Transcripts.{TranscriptValue}
use Rattle.irp_script_reader.specs.declared.script.Script.{Script}
use Rattle.irp_script_reader.specs.Forms.{slots_of}
use Rattle.irp_script.specs.Numbers.{EachAsOften}
use Rattle.irp_script.specs.Stops.{terms_of}
use Rattle.irp_script.specs.Told.{IsTold}
use Rattle.irp_script.specs.Working.{AtWork, RunsScript}
use Rattle.irp_script.specs.declared.stop.Stop.{Stop}

-- ---- the parts of a script's seats, in order

-- the seats in which they make calls
abbrev pub seats_in : List AtWork → List Seated
seats_in all = map (λ own. own.seat) all

-- their remove seats
abbrev pub removes_in : List AtWork → List Holder
removes_in all = map (λ own. own.remove) all

-- what they have at the slots: all of it, their cancellers, and the owners of all of them together
abbrev pub parties_in : List AtWork → List AtSlots
parties_in all = map (λ own. own.parties) all

abbrev pub cancellers_in : List AtWork → List Asker
cancellers_in all = map (λ own. own.parties.canceller) all

abbrev pub owners_in : List AtWork → List Publisher
owners_in all = flat_map (λ own. own.parties.owners) all

-- ---- all of it

-- The seats of a script as they are opened. They are numbered by their places, have no entries and have seen nothing.
-- Their remove seats hold nothing and know nothing, their cancellers have asked nothing. Each has all slots of the
-- script before it. Each slot has an owner, which has published nothing and is with the seat that owns the slot. No
-- seat has taken a token out of a slot
pub record AreOpened (script : Script) (all : List AtWork) : Type 0 where
  pub new : AreNew script.seats (seats_in all)
  pub lock_table : TableId
  pub idle : AreFresh lock_table script.seats (removes_in all)
  pub slot_table : TableId
  pub counted : All (λ own. own.parties.slots ≡ slots_of script.form) all
  pub unasked : All (IsFreshCanceller slot_table) (cancellers_in all)
  pub owners : List Publisher
  pub unpublished : AreFreshOwners slot_table (slots_of script.form) owners
  pub given : EachAsOften owners (owners_in all)
  pub own : OwnTheirSlots script.seats (parties_in all)
  pub untaken : All (λ own. own.parties.taken ≡ []) all

-- What ran, where this is fixed and questions are answered as the script tells: one worker made the setup, and then so
-- many made their own steps, each in the script's order. The setup begins with the seats as they are opened, the steps
-- with seats that have seen all of it; all steps are made, where nothing stopped. The transcript has the word lines that
-- came of it, and for each seat just the entries that it had in the end
pub record Ran (workers : ℕ) (script : Script) (fixed : Fixed) (transcript : TranscriptValue) (stop : Option Stop)
    : Type 0 where
  pub before : List AtWork
  pub after : List AtWork
  pub opened : AreOpened script before
  pub made : RunsScript (terms_of fixed (IsTold script)) workers (length script.labels) script.setup script.steps
      before after transcript.words stop
  pub closed : List Seated
  pub back : EachAsOften (seats_in after) closed
  pub kept : All (IsKept transcript.entries) closed
