use Rattle.std.proofs.Common.{◌≡◌, take}
use Rattle.irp_text_faults.specs.Reading.{IsSound, read_through}
use Rattle.irp_text_faults.proofs.seeking.read_through.Given as goal

-- what is read so far
abbrev pub invariant-loop-byte : goal.invariant-loop-byte
invariant-loop-byte l = record {
  is : l.read ≡ read_through l.key l.sought l.text (take l.byte-index l.text);
  at : l.read.at ≡ l.byte-index;
  sound : IsSound l.read;
}
