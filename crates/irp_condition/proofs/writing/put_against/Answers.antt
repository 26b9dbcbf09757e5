use Rattle.std.proofs.Common.{◌≡◌, ◌++◌, List, ℕ, [], refl, sym, subst, ◌∙◌, ap, OnOk}
use Rattle.std.specs.Prelude.{string_bytes}
use Rattle.irp_condition.specs.declared.condition.Term.{Term}
use Rattle.irp_condition.specs.declared.condition.Term.TheVariants as term
use Rattle.irp_condition.specs.Formulas.{true_of, compares}
use Rattle.irp_condition.specs.Writing.{Puts, PutsCompared, other_truth, other_left, other_right, bytes_of, fact_pieces}
use Rattle.irp_condition.proofs.Putting.{so_ok, puts_fact, puts_compared, puts_none}
use Rattle.irp_condition.proofs.writing.put_against.Goals as goal

pub returns-in-Constant : goal.returns-in-Constant
returns-in-Constant c = λ level.
    subst (λ (right : Term). OnOk c.put_compared.result (Puts c.args.scope level (compares (term.Fact c.args.fact) c.args.comparison right) (string_bytes c.args.text.now) (string_bytes c.put_compared.new.text))) (sym c.in-Constant.is)
    (so_ok c.put_compared.result
    (PutsCompared c.args.scope c.args.fact c.args.comparison c.in-Constant.value (string_bytes c.args.text.now) (string_bytes c.put_compared.new.text))
    (Puts c.args.scope level (compares (term.Fact c.args.fact) c.args.comparison (term.Constant c.in-Constant.value)) (string_bytes c.args.text.now) (string_bytes c.put_compared.new.text))
    c.put_compared.ensures
    (puts_compared c.args.scope level c.args.fact c.args.comparison c.in-Constant.value (string_bytes c.args.text.now) (string_bytes c.put_compared.new.text)))

pub returns-in-Fact : goal.returns-in-Fact
returns-in-Fact c = λ level.
    subst (λ (right : Term). Puts c.args.scope level (compares (term.Fact c.args.fact) c.args.comparison right) (string_bytes c.args.text.now) (string_bytes c.args.text.now)) (sym c.in-Fact.is)
    ([], puts_none (string_bytes c.args.text.now), other_right)
