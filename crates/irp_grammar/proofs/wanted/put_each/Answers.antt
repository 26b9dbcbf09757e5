use Rattle.irp_grammar.proofs.Worded.{says_key}
use Rattle.irp_grammar.proofs.wanted.put_each.Goals as goal

pub loop-key-preserved : goal.loop-key-preserved
loop-key-preserved c =
    says_key c.args.keys.now c.loop-key.key-index _ c.args.text.now c.loop-key.text c.put.new.self c.put-in-loop-key.new.self
    c.loop-key-test.true c.loop-key.invariant c.put.ensures c.put-in-loop-key.ensures
