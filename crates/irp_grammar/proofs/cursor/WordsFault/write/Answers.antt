use Rattle.irp_grammar.proofs.Worded.{says_line}
use Rattle.irp_grammar.proofs.cursor.WordsFault.write.Goals as goal

pub returns : goal.returns
returns c =
    says_line c.args.self.now c.args.text.now c.write_place.new.text c.put.new.self c.write.new.text c.put_hint.new.text
    c.put-2.new.self c.write_place.ensures c.put.ensures c.write.ensures c.put_hint.ensures c.put-2.ensures
