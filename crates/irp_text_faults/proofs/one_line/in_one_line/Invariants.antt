use Rattle.irp_text_faults.specs.OneLine.{IsOneLine}
use Rattle.irp_text_faults.proofs.one_line.in_one_line.Given as goal

abbrev pub invariant-loop-letter : goal.invariant-loop-letter
invariant-loop-letter l = IsOneLine l.line.bytes.items
