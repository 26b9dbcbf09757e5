use Rattle.irp_names.proofs.Saying.{says_both}
use Rattle.irp_grammar.proofs.cursor.put_hint.Goals as goal

pub returns-in-Some : goal.returns-in-Some
returns-in-Some c =
    rw c.in-Some.is
    (says_both _ _ c.args.text.now c.put.new.self c.put-in-Some-2.new.self c.put.ensures
    (says_both _ _ c.put.new.self c.put-in-Some.new.self c.put-in-Some-2.new.self c.put-in-Some.ensures c.put-in-Some-2.ensures))
