-- Headers: what they fix, and which of them the formats accept.
use Rattle.std.specs.Prelude.{ℕ, ◌≡◌, ◌≤◌, List, length, map}
use Rattle.irp_types.specs.Limits.{most_locks, most_seats, most_slots, most_drivers, most_dispatches}
use Rattle.irp_types.specs.Rules.{IsWithin}
use Rattle.irp_types.specs.State.{Entrance, Fixed, AreTables, most_known}
use Rattle.irp_types.specs.declared.limit.Limit.{Limit}
use Rattle.irp_types.specs.declared.limit.Limit.TheVariants.{Sixteen, ThirtyTwo}
use Rattle.irp_transcript.specs.declared.header.Form.{Form}
use Rattle.irp_transcript.specs.declared.header.Form.TheVariants.{One, Two}
use Rattle.irp_transcript.specs.declared.header.Header.{Header}

-- the limit of a form
abbrev pub limit_of : Form → Limit
limit_of One = Sixteen
limit_of (Two slots) = ThirtyTwo

-- the cancel slots of a form
abbrev pub slots_of : Form → ℕ
slots_of One = 0
slots_of (Two slots) = slots

-- the major function codes of a driver's pairs
abbrev pub majors : List Entrance → List ℕ
majors pairs = map (λ (entrance : Entrance). entrance.0) pairs

-- what is fixed while a manager lives, as a header tells it
abbrev pub fixed_of : Header → Fixed
fixed_of header = record {
  locks = header.locks;
  tables = record {
    counts = header.completions;
    drivers = header.drivers;
    dispatches = header.dispatches;
    cancel_rules = header.cancels;
  };
  limit = limit_of header.form;
}

-- as many of each thing as there may be, and as many cancel routines as are counted
pub record HasCounts (header : Header) : Type 0 where
  pub cancels : header.completions.cancel ≡ length header.cancels
  pub few_routines : IsWithin header.completions most_known
  pub few_dispatches : length header.dispatches ≤ most_dispatches
  pub few_drivers : length header.drivers ≤ most_drivers
  pub some_locks : 1 ≤ header.locks
  pub few_locks : header.locks ≤ most_locks
  pub some_seats : 1 ≤ header.seats
  pub few_seats : header.seats ≤ most_seats
  pub few_slots : slots_of header.form ≤ most_slots

-- a header that the formats accept: its tables agree with each other, and there are as many locks and seats as there
-- may be
pub record IsHeader (header : Header) : Type 0 where
  pub tables : AreTables (fixed_of header).tables
  pub some_locks : 1 ≤ header.locks
  pub few_locks : header.locks ≤ most_locks
  pub some_seats : 1 ≤ header.seats
  pub few_seats : header.seats ≤ most_seats
  pub few_slots : slots_of header.form ≤ most_slots
