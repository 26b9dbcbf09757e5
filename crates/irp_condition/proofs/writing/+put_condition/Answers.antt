use Rattle.std.proofs.Common.{◌≡◌, ◌++◌, List, [], ℕ, refl, sym, subst, ◌∙◌, ap, OnOk}
use Rattle.std.specs.Prelude.{string_bytes, codes}
use Rattle.irp_condition.specs.declared.condition.Condition.{Condition}
use Rattle.irp_condition.specs.declared.condition.Term.TheVariants as term
use Rattle.irp_condition.specs.declared.naming.Joint.TheVariants.{And, Or}
use Rattle.irp_condition.specs.Formulas.{formula_of, joins, no, true_of, compares}
use Rattle.irp_condition.specs.Grammar.{single, joined}
use Rattle.irp_condition.specs.Writing.{Puts, PutsCompared, level_of, other_truth, other_left, other_right, bytes_of, fact_pieces}
use Rattle.irp_condition.proofs.Putting.{when_ok, so_ok, puts_joined, puts_not, puts_fact, puts_compared, puts_none}
use Rattle.irp_condition.proofs.writing.+put_condition.Goals as goal

pub returns-in_ok-put_condition-in-Or-2 : goal.returns-in_ok-put_condition-in-Or-2
returns-in_ok-put_condition-in-Or-2 t c =
    subst (λ (condition : Condition). OnOk c.push_str-in-Or-2.result (Puts c.args.scope (level_of c.args.level) (formula_of condition) (string_bytes c.args.text.now) (string_bytes c.push_str-in-Or-2.new.self))) (sym c.in-Or.is)
    (when_ok c.push_str-in-Or-2.result (string_bytes c.put_condition-in-Or.new.text) (string_bytes c.push_str-in-Or-2.new.self) c.parentheses-around.result.1.now
    (Puts c.args.scope (level_of c.args.level) (joins Or (formula_of c.in-Or.left.value) (formula_of c.in-Or.right.value)) (string_bytes c.args.text.now) (string_bytes c.push_str-in-Or-2.new.self))
    c.push_str-in-Or-2.ensures.bytes
    (λ last. puts_joined c.args.scope (level_of c.args.level) Or (formula_of c.in-Or.left.value) (formula_of c.in-Or.right.value)
    (string_bytes c.args.text.now) (string_bytes c.push_str.new.self) (string_bytes c.put_condition.new.text) (string_bytes c.push_str-in-Or.new.self) (string_bytes c.put_condition-in-Or.new.text) (string_bytes c.push_str-in-Or-2.new.self)
    c.parentheses-around.result.0.now c.parentheses-around.result.1.now (codes " or ")
    c.parentheses-around.ensures.open c.parentheses-around.ensures.close refl
    c.in_ok-push_str-in-Or.ensures.bytes
    (subst (λ (condition : Condition). Puts c.args.scope (joined Or) (formula_of condition) (string_bytes c.push_str.new.self) (string_bytes c.put_condition.new.text)) c.deref.ensures c.in_ok-put_condition-in-Or.ensures)
    c.in_ok-push_str-in-Or-2.ensures.bytes
    (subst (λ (condition : Condition). Puts c.args.scope (joined And) (formula_of condition) (string_bytes c.push_str-in-Or.new.self) (string_bytes c.put_condition-in-Or.new.text)) c.deref-in-Or.ensures c.in_ok-put_condition-in-Or-2.ensures)
    last))

pub returns-in_ok-put_condition-in-And-2 : goal.returns-in_ok-put_condition-in-And-2
returns-in_ok-put_condition-in-And-2 t c =
    subst (λ (condition : Condition). OnOk c.push_str-in-And-3.result (Puts c.args.scope (level_of c.args.level) (formula_of condition) (string_bytes c.args.text.now) (string_bytes c.push_str-in-And-3.new.self))) (sym c.in-And.is)
    (when_ok c.push_str-in-And-3.result (string_bytes c.put_condition-in-And-2.new.text) (string_bytes c.push_str-in-And-3.new.self) c.parentheses-around-in-And.result.1.now
    (Puts c.args.scope (level_of c.args.level) (joins And (formula_of c.in-And.left.value) (formula_of c.in-And.right.value)) (string_bytes c.args.text.now) (string_bytes c.push_str-in-And-3.new.self))
    c.push_str-in-And-3.ensures.bytes
    (λ last. puts_joined c.args.scope (level_of c.args.level) And (formula_of c.in-And.left.value) (formula_of c.in-And.right.value)
    (string_bytes c.args.text.now) (string_bytes c.push_str-in-And.new.self) (string_bytes c.put_condition-in-And.new.text) (string_bytes c.push_str-in-And-2.new.self) (string_bytes c.put_condition-in-And-2.new.text) (string_bytes c.push_str-in-And-3.new.self)
    c.parentheses-around-in-And.result.0.now c.parentheses-around-in-And.result.1.now (codes " and ")
    c.parentheses-around-in-And.ensures.open c.parentheses-around-in-And.ensures.close refl
    c.in_ok-push_str-in-And.ensures.bytes
    (subst (λ (condition : Condition). Puts c.args.scope (joined And) (formula_of condition) (string_bytes c.push_str-in-And.new.self) (string_bytes c.put_condition-in-And.new.text)) c.deref-in-And.ensures c.in_ok-put_condition-in-And.ensures)
    c.in_ok-push_str-in-And-2.ensures.bytes
    (subst (λ (condition : Condition). Puts c.args.scope single (formula_of condition) (string_bytes c.push_str-in-And-2.new.self) (string_bytes c.put_condition-in-And-2.new.text)) c.deref-in-And-2.ensures c.in_ok-put_condition-in-And-2.ensures)
    last))

pub returns-in_ok-push_str-in-Not : goal.returns-in_ok-push_str-in-Not
returns-in_ok-push_str-in-Not t c =
    subst (λ (condition : Condition). OnOk c.put_condition-in-Not.result (Puts c.args.scope (level_of c.args.level) (formula_of condition) (string_bytes c.args.text.now) (string_bytes c.put_condition-in-Not.new.text))) (sym c.in-Not.is)
    (so_ok c.put_condition-in-Not.result
    (Puts c.args.scope single (formula_of c.in-Not.inner.value) (string_bytes c.push_str-in-Not.new.self) (string_bytes c.put_condition-in-Not.new.text))
    (Puts c.args.scope (level_of c.args.level) (no (formula_of c.in-Not.inner.value)) (string_bytes c.args.text.now) (string_bytes c.put_condition-in-Not.new.text))
    (subst (λ (condition : Condition). OnOk c.put_condition-in-Not.result (Puts c.args.scope single (formula_of condition) (string_bytes c.push_str-in-Not.new.self) (string_bytes c.put_condition-in-Not.new.text))) c.deref-in-Not.ensures c.put_condition-in-Not.ensures)
    (puts_not c.args.scope (level_of c.args.level) (formula_of c.in-Not.inner.value) (string_bytes c.args.text.now) (string_bytes c.push_str-in-Not.new.self) (string_bytes c.put_condition-in-Not.new.text)
    c.in_ok-push_str-in-Not.ensures.bytes))

pub returns-in-Is : goal.returns-in-Is
returns-in-Is t c =
    subst (λ (condition : Condition). OnOk c.put_truth.result (Puts c.args.scope (level_of c.args.level) (formula_of condition) (string_bytes c.args.text.now) (string_bytes c.put_truth.new.text))) (sym c.in-Is.is)
    (c.put_truth.ensures (level_of c.args.level))

pub returns-in-Compare : goal.returns-in-Compare
returns-in-Compare t c =
    subst (λ (condition : Condition). OnOk c.put_comparison.result (Puts c.args.scope (level_of c.args.level) (formula_of condition) (string_bytes c.args.text.now) (string_bytes c.put_comparison.new.text))) (sym c.in-Compare.is)
    (c.put_comparison.ensures (level_of c.args.level))
