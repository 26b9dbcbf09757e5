use Rattle.irp_forms.specs.Steps.{keys_of}
use Rattle.irp_grammar.specs.Lines.{ahead}
use Rattle.irp_grammar.specs.Reading.{given_of}
use Rattle.irp_grammar.specs.Saying.{none}
use Rattle.irp_grammar.proofs.Valued.{keys_more, only_both}
use Rattle.irp_grammar.proofs.said.Said.take_values.Goals as goal

-- one key more
pub loop-taken-preserved : goal.loop-taken-preserved
loop-taken-preserved c = (
  keys_more c.loop-taken._taken (keys_of c.args.act) (ahead c.args.words.now) (ahead c.loop-taken.words)
      (ahead c.take_key.new.words) none c.loop-taken.values c.take_key.new.values (given_of c.args.self.now)
      (given_of c.loop-taken.self) (given_of c.take_key.new.self) c.loop-taken.invariant.0 c.in_ok-take_key.ensures.key,
  only_both c.args.self.now c.loop-taken.self c.take_key.new.self c.loop-taken.invariant.1 c.in_ok-take_key.ensures.said,
)
