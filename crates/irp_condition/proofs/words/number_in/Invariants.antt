use Rattle.std.proofs.Common.{◌≡◌, drop}
use Rattle.irp_condition.specs.Words.{number_in, number_behind}
use Rattle.irp_condition.proofs.words.number_in.Given as goal

abbrev pub invariant-loop-byte : goal.invariant-loop-byte
invariant-loop-byte l = number_in l.base l.digits ≡ number_behind l.base l.number (drop l.byte-index l.digits)
