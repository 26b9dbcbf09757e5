use Rattle.std.proofs.Common.{◌≡◌, drop}
use Rattle.irp_condition.specs.Writing.{all_of_word}
use Rattle.irp_condition.proofs.writing.all_of_word.Given as goal

abbrev pub invariant-loop-byte : goal.invariant-loop-byte
invariant-loop-byte l = all_of_word l.bytes ≡ all_of_word (drop l.byte-index l.bytes)
