use Rattle.std.proofs.Common.{[], Some, take}
use Rattle.irp_grammar.specs.Faults.{AreFaultLines, SaysOne}
use Rattle.irp_grammar.proofs.cursor.fault_lines.Given as goal

-- the lines of the faults so far stand there
abbrev pub invariant-loop-fault : goal.invariant-loop-fault
invariant-loop-fault l = SaysOne (AreFaultLines (take l.fault-index l.faults)) (Some []) l.text
