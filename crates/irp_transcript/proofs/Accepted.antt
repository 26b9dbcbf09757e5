-- A header that the formats accept, by its counts and its lists.
use Rattle.std.specs.List.{All}
use Rattle.irp_types.specs.Rules.{IsWithin}
use Rattle.irp_types.specs.State.{IsDriver}
use Rattle.irp_transcript.specs.Headers.{IsHeader, HasCounts, fixed_of}
use Rattle.irp_transcript.specs.declared.header.Header.{Header}

pub counts_of : (header : Header) → IsHeader header → HasCounts header
counts_of header is = record {
  cancels = is.tables.cancels;
  few_routines = is.tables.few_routines;
  few_dispatches = is.tables.few_dispatches;
  few_drivers = is.tables.few_drivers;
  some_locks = is.some_locks;
  few_locks = is.few_locks;
  some_seats = is.some_seats;
  few_seats = is.few_seats;
  few_slots = is.few_slots;
}

pub header_of : (header : Header) → HasCounts header → All (λ known. IsWithin known header.completions) header.dispatches
    → All (IsDriver (fixed_of header).tables) header.drivers → IsHeader header
header_of header counts known drivers = record {
  tables = record {
    cancels = counts.cancels;
    known = known;
    drivers = drivers;
    few_routines = counts.few_routines;
    few_dispatches = counts.few_dispatches;
    few_drivers = counts.few_drivers;
  };
  some_locks = counts.some_locks;
  few_locks = counts.few_locks;
  some_seats = counts.some_seats;
  few_seats = counts.few_seats;
  few_slots = counts.few_slots;
}
