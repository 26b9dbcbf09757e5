use Rattle.std.proofs.Common.{◌∙◌, ℕ, Bor, List, ap, sym}
use Rattle.std.specs.Option.{option_map}
use Rattle.irp_types.specs.declared.routine.Known.{Known}
use Rattle.irp_forms.specs.Names.{first_named, rule_name, rules}
use Rattle.irp_grammar.specs.Lines.{ahead}
use Rattle.irp_grammar.specs.Reading.{given_of}
use Rattle.irp_grammar.proofs.said.Said.take_rule.Goals as goal

-- the rule behind the name, if there is one
pub returns-in-Some-clause-rule : goal.returns-in-Some-clause-rule
returns-in-Some-clause-rule c = (
  ahead c.pass_name-name.new.words,
  given_of c.name_rule.new.self,
  record {
    name = option_map (λ (name : Bor (List ℕ)). name.now) c.pass_name-name.result;
    is = c.pass_name-name.ensures.name;
    behind = c.pass_name-name.ensures.words;
    given = c.in-Some.ensures.given;
  },
  ap (first_named rule_name rules) (sym c.text.ensures) ∙ sym c.named.ensures.first ∙ c.in_ok-rule.ensures.read,
  c.in_ok-rule.ensures.passed,
  ap (λ (counts : Known). record (given_of c.name_rule.new.self) { counts = counts }) c.with_one-self.ensures,
)
