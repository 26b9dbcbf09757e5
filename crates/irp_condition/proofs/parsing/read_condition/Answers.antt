-- Where a text stops being a condition.
use Rattle.std.proofs.Common.{◌≡◌, ap, ◌∙◌, length, arith}
use Rattle.std.proofs.lemmas.Result.{err_from_is_err_and}
use Rattle.std.specs.Prelude.{Ok, Err}
use Rattle.irp_condition.specs.Formulas.{formula_of}
use Rattle.irp_condition.specs.Tokens.{tokens_below}
use Rattle.irp_condition.proofs.Once.{gives_fault, all_said}
use Rattle.irp_condition.proofs.Readings.{text_breaks, more_behind}
use Rattle.irp_condition.proofs.parsing.read_condition.Goals as goal

pub returns-in_err-condition-clause-broken : goal.returns-in_err-condition-clause-broken
returns-in_err-condition-clause-broken c =
    let are : c.deref.result.now ≡ tokens_below c.args.text.now (length c.args.text.now) =
    c.deref.ensures.value ∙ c.in_ok-tokens.ensures ∙ ap (λ text. tokens_below text (length text)) c.as_bytes.ensures.value in
    let passed = err_from_is_err_and c.from_residual-in_err-condition.result c.from_residual-in_err-condition.ensures.1 in
    rw (passed.1, passed.2) (text_breaks c.args.scope c.args.text.now c.deref.result.now c.in_err-condition.field-0.0 are c.in_err-condition.ensures.reads.broken)

pub returns-then-not-is_empty-clause-broken : goal.returns-then-not-is_empty-clause-broken
returns-then-not-is_empty-clause-broken c =
    let are : c.deref.result.now ≡ tokens_below c.args.text.now (length c.args.text.now) =
    c.deref.ensures.value ∙ c.in_ok-tokens.ensures ∙ ap (λ text. tokens_below text (length text)) c.as_bytes.ensures.value in
    rw (c.fault_at.ensures)
    (more_behind c.args.scope c.args.text.now c.deref.result.now c.in_ok-condition.rest.now (formula_of c.in_ok-condition.condition) are
    c.in_ok-condition.ensures.reads.said c.in_ok-condition.ensures.reads.stops (λ is. let none : length c.in_ok-condition.rest.now ≡ 0 = ap length is in absurd (grind (arith, none, c.if-not-is_empty.true, c.is_empty.ensures))))

pub returns-in_err-condition-clause-once : goal.returns-in_err-condition-clause-once
returns-in_err-condition-clause-once c =
    let passed = err_from_is_err_and c.from_residual-in_err-condition.result c.from_residual-in_err-condition.ensures.1 in
    gives_fault c.args.scope c.args.text.now c.from_residual-in_err-condition.result (rw (passed.1) tt) (returns-in_err-condition-clause-broken c)

pub returns-then-not-is_empty-clause-once : goal.returns-then-not-is_empty-clause-once
returns-then-not-is_empty-clause-once c =
    gives_fault c.args.scope c.args.text.now (Err c.fault_at.result) tt (returns-then-not-is_empty-clause-broken c)

pub returns-clause-once : goal.returns-clause-once
returns-clause-once c =
    let are : c.deref.result.now ≡ tokens_below c.args.text.now (length c.args.text.now) =
    c.deref.ensures.value ∙ c.in_ok-tokens.ensures ∙ ap (λ text. tokens_below text (length text)) c.as_bytes.ensures.value in
    let none : length c.in_ok-condition.rest.now ≡ 0 = grind (arith, c.if-not-is_empty.false, c.is_empty.ensures) in
    gives_fault c.args.scope c.args.text.now (Ok c.in_ok-condition.condition)
    (all_said c.args.scope c.args.text.now c.deref.result.now c.in_ok-condition.rest.now (formula_of c.in_ok-condition.condition) are c.in_ok-condition.ensures.reads.said none) tt
