use Rattle.std.proofs.Common.{◌≡◌, ◌++◌, List, ℕ, [], refl, sym, subst, ◌∙◌, ap, OnOk}
use Rattle.std.specs.Prelude.{string_bytes}
use Rattle.irp_condition.specs.declared.condition.Term.{Term}
use Rattle.irp_condition.specs.declared.condition.Term.TheVariants as term
use Rattle.irp_condition.specs.Formulas.{true_of, compares}
use Rattle.irp_condition.specs.Writing.{Puts, PutsCompared, other_truth, other_left, other_right, bytes_of, fact_pieces}
use Rattle.irp_condition.proofs.Putting.{so_ok, puts_fact, puts_compared, puts_none}
use Rattle.irp_condition.proofs.writing.put_comparison.Goals as goal

pub returns-in-Fact : goal.returns-in-Fact
returns-in-Fact c = λ level.
    subst (λ (left : Term). OnOk c.put_against.result (Puts c.args.scope level (compares left c.args.comparison c.args.right) (string_bytes c.args.text.now) (string_bytes c.put_against.new.text))) (sym c.in-Fact.is)
    (c.put_against.ensures level)

pub returns-in-Constant : goal.returns-in-Constant
returns-in-Constant c = λ level.
    subst (λ (left : Term). Puts c.args.scope level (compares left c.args.comparison c.args.right) (string_bytes c.args.text.now) (string_bytes c.args.text.now)) (sym c.in-Constant.is)
    ([], puts_none (string_bytes c.args.text.now), other_left)
