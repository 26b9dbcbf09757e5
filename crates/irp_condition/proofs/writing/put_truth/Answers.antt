use Rattle.std.proofs.Common.{◌≡◌, ◌++◌, List, ℕ, [], refl, sym, subst, ◌∙◌, ap, OnOk}
use Rattle.std.specs.Prelude.{string_bytes}
use Rattle.irp_condition.specs.declared.condition.Term.{Term}
use Rattle.irp_condition.specs.declared.condition.Term.TheVariants as term
use Rattle.irp_condition.specs.Formulas.{true_of, compares}
use Rattle.irp_condition.specs.Writing.{Puts, PutsCompared, other_truth, other_left, other_right, bytes_of, fact_pieces}
use Rattle.irp_condition.proofs.Putting.{so_ok, puts_fact, puts_compared, puts_none}
use Rattle.irp_condition.proofs.writing.put_truth.Goals as goal

pub returns-in-Fact : goal.returns-in-Fact
returns-in-Fact c = λ level.
    subst (λ (term : Term). OnOk c.put_fact.result (Puts c.args.scope level (true_of term) (string_bytes c.args.text.now) (string_bytes c.put_fact.new.text))) (sym c.in-Fact.is)
    (so_ok c.put_fact.result (string_bytes c.put_fact.new.text ≡ string_bytes c.args.text.now ++ bytes_of (fact_pieces c.args.scope c.in-Fact.fact []))
    (Puts c.args.scope level (true_of (term.Fact c.in-Fact.fact)) (string_bytes c.args.text.now) (string_bytes c.put_fact.new.text))
    c.put_fact.ensures (puts_fact c.args.scope level c.in-Fact.fact (string_bytes c.args.text.now) (string_bytes c.put_fact.new.text)))

pub returns-in-Constant : goal.returns-in-Constant
returns-in-Constant c = λ level.
    subst (λ (term : Term). Puts c.args.scope level (true_of term) (string_bytes c.args.text.now) (string_bytes c.args.text.now)) (sym c.in-Constant.is)
    ([], puts_none (string_bytes c.args.text.now), other_truth)
