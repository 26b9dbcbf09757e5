use Rattle.std.proofs.Common.{◌≡◌, ◌+◌, ◌≤◌, take}
use Rattle.irp_text_faults.specs.Places.{place_behind}
use Rattle.irp_text_faults.proofs.places.place_of.Given as goal

-- the place behind the bytes so far, whose numbers are small
abbrev pub invariant-loop-byte : goal.invariant-loop-byte
invariant-loop-byte l = record {
  is : l.place ≡ place_behind (take l.byte-index l.byte-items);
  line : l.place.line ≤ l.byte-index + 1;
  column : l.place.column ≤ l.byte-index + 1;
}
