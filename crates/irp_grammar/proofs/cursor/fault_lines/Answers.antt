use Rattle.std.proofs.Common.{[], Some}
use Rattle.irp_grammar.proofs.Worded.{says_more}
use Rattle.irp_grammar.proofs.cursor.fault_lines.Goals as goal

pub loop-fault-preserved : goal.loop-fault-preserved
loop-fault-preserved c =
    says_more c.args.faults.now c.loop-fault.fault-index _ (Some []) c.loop-fault.text c.write.new.text
    c.loop-fault-test.true c.loop-fault.invariant c.write.ensures
