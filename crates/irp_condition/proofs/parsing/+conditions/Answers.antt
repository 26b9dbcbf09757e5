use Rattle.std.proofs.Common.{◌≡◌, ◌-◌, ℕ, suc, List, Some, None, sym, subst, arith}
use Rattle.std.proofs.lemmas.Result.{err_from_is_err_and}
use Rattle.irp_condition.specs.Formulas.{formula_of}
use Rattle.irp_condition.specs.Grammar.{alone}
use Rattle.irp_condition.specs.Naming.{word_of}
use Rattle.irp_condition.specs.Reading.{behind_word}
use Rattle.irp_condition.proofs.Readings.{compared_reads, negated_reads, enclosed_reads, enclosed_open, deep_not_reads, deep_open_reads, negated_fails, enclosed_fails, joined_fails, first_chain, next_fails, next_chain, next_said, joined_reads}
use Rattle.irp_condition.proofs.parsing.+conditions.Goals as goal

pub joined_at-returns-in_err-so_far-clause-reads :
    goal.joined_at-returns-in_err-so_far-clause-reads
joined_at-returns-in_err-so_far-clause-reads t c =
    let passed = err_from_is_err_and c.from_residual.result c.from_residual.ensures.1 in
    rw (passed.1, passed.2) (joined_fails c.args.reader c.args.joint c.args.depth c.args.tokens.now c.in_err-so_far.field-0.0 c.in_err-so_far.ensures.reads)

pub joined_at-loop-next-init : goal.joined_at-loop-next-init
joined_at-loop-next-init t c = record {
  said = alone c.in_ok-so_far.ensures.reads.said;
  whole = first_chain c.args.reader c.args.joint c.args.depth c.args.tokens.now c.in_ok-so_far.so_far c.in_ok-so_far.rest c.in_ok-so_far.ensures.reads;
  stops = c.in_ok-so_far.ensures.reads.stops;
  shorter = c.in_ok-so_far.ensures.shorter;
}

pub joined_at-returns-in_err-right-clause-reads : goal.joined_at-returns-in_err-right-clause-reads
joined_at-returns-in_err-right-clause-reads t c =
    let word : behind_word (word_of c.args.joint) c.loop-next.rest.now ≡ Some c.in-Some.next.now =
    subst (λ (word : List ℕ). behind_word word c.loop-next.rest.now ≡ Some c.in-Some.next.now) c.word_of.ensures (sym c.in-Some.ensures.reads) in
    let passed = err_from_is_err_and c.from_residual-in_err-right.result c.from_residual-in_err-right.ensures.1 in
    rw (passed.1, passed.2) (next_fails c.args.reader c.args.joint c.args.depth c.args.tokens.now c.loop-next.rest.now c.in-Some.next.now (formula_of c.loop-next.so_far) c.in_err-right.field-0.0
    c.loop-next.invariant.said c.loop-next.invariant.whole word c.in_err-right.ensures.reads)

pub joined_at-loop-next-preserved : goal.joined_at-loop-next-preserved
joined_at-loop-next-preserved t c =
    let word : behind_word (word_of c.args.joint) c.loop-next.rest.now ≡ Some c.in-Some.next.now =
    subst (λ (word : List ℕ). behind_word word c.loop-next.rest.now ≡ Some c.in-Some.next.now) c.word_of.ensures (sym c.in-Some.ensures.reads) in
    record {
      said = next_said c.args.reader c.args.joint c.args.depth c.args.tokens.now c.loop-next.rest.now c.in-Some.next.now (formula_of c.loop-next.so_far) (formula_of c.in_ok-so_far-2.so_far) c.in_ok-right.right c.in_ok-right.behind
          c.loop-next.invariant.said word c.in_ok-right.ensures.reads c.in_ok-so_far-2.ensures;
      whole = next_chain c.args.reader c.args.joint c.args.depth c.args.tokens.now c.loop-next.rest.now c.in-Some.next.now (formula_of c.loop-next.so_far) (formula_of c.in_ok-so_far-2.so_far) c.in_ok-right.right c.in_ok-right.behind
          c.loop-next.invariant.whole word c.in_ok-right.ensures.reads c.in_ok-so_far-2.ensures;
      stops = c.in_ok-right.ensures.reads.stops;
      shorter = omega (arith, c.in_ok-right.ensures.shorter, c.in-Some.ensures.shorter, c.loop-next.invariant.shorter);
    }

pub joined_at-returns-clause-reads : goal.joined_at-returns-clause-reads
joined_at-returns-clause-reads t c =
    let word : behind_word (word_of c.args.joint) c.loop-next.rest.now ≡ None =
    subst (λ (word : List ℕ). behind_word word c.loop-next.rest.now ≡ None) c.word_of.ensures (sym c.in_default.ensures.reads) in
    joined_reads c.args.reader c.args.joint c.args.depth c.args.tokens.now c.loop-next.so_far c.loop-next.rest c.loop-next.invariant.said c.loop-next.invariant.stops c.loop-next.invariant.whole word

pub single_at-returns-in-Some-clause-reads : goal.single_at-returns-in-Some-clause-reads
single_at-returns-in-Some-clause-reads t c =
    let less : c.args.depth ≡ suc (c.args.depth - 1) = omega arith in
    negated_reads c.args.reader (c.args.depth - 1) c.args.depth c.args.tokens.now c.in-Some.inner.now c.in_ok-condition.condition c.in_ok-not.field-0 c.in_ok-condition.rest less (sym c.in-Some.ensures.reads)
    c.in_ok-condition.ensures.reads c.in_ok-not.ensures

pub single_at-returns-in_default-behind_open-clause-reads :
    goal.single_at-returns-in_default-behind_open-clause-reads
single_at-returns-in_default-behind_open-clause-reads t c =
    compared_reads c.args.reader c.args.depth c.args.tokens.now c.compared_at.result (sym c.in_default.ensures.reads) (sym c.in_default-behind_open.ensures.reads) c.compared_at.ensures.reads

pub single_at-returns-in-Some-behind_close-clause-reads : goal.single_at-returns-in-Some-behind_close-clause-reads
single_at-returns-in-Some-behind_close-clause-reads t c =
    let less : c.args.depth ≡ suc (c.args.depth - 1) = omega arith in
    enclosed_reads c.args.reader (c.args.depth - 1) c.args.depth c.args.tokens.now c.in-Some-behind_open.inner.now c.in_ok-condition-2.condition c.in_ok-condition-2.behind c.in-Some-behind_close.rest less (sym c.in-Some-behind_open.ensures.reads)
    c.in_ok-condition-2.ensures.reads (sym c.in-Some-behind_close.ensures.reads)

pub single_at-returns-in-None-clause-reads : goal.single_at-returns-in-None-clause-reads
single_at-returns-in-None-clause-reads t c =
    let less : c.args.depth ≡ suc (c.args.depth - 1) = omega arith in
    rw (c.fault_at-in-None.ensures) (enclosed_open c.args.reader (c.args.depth - 1) c.args.depth c.args.tokens.now c.in-Some-behind_open.inner.now c.in_ok-condition-2.condition c.in_ok-condition-2.behind less (sym c.in-Some-behind_open.ensures.reads)
    c.in_ok-condition-2.ensures.reads (sym c.in-None.ensures.reads))

pub single_at-returns-then-depth-eq0-clause-reads :
    goal.single_at-returns-then-depth-eq0-clause-reads
single_at-returns-then-depth-eq0-clause-reads t c =
    rw (c.fault_at.ensures) (deep_not_reads c.args.reader c.args.depth c.args.tokens.now c.in-Some.inner.now c.if-depth-eq0.true (sym c.in-Some.ensures.reads))

pub single_at-returns-in_err-condition-clause-reads :
    goal.single_at-returns-in_err-condition-clause-reads
single_at-returns-in_err-condition-clause-reads t c =
    let less : c.args.depth ≡ suc (c.args.depth - 1) = omega arith in
    let passed = err_from_is_err_and c.from_residual.result c.from_residual.ensures.1 in
    rw (passed.1, passed.2) (negated_fails c.args.reader (c.args.depth - 1) c.args.depth c.args.tokens.now c.in-Some.inner.now c.in_err-condition.field-0.0 less (sym c.in-Some.ensures.reads) c.in_err-condition.ensures.reads)

pub single_at-returns-then-depth-eq0-2-clause-reads :
    goal.single_at-returns-then-depth-eq0-2-clause-reads
single_at-returns-then-depth-eq0-2-clause-reads t c =
    rw (c.fault_at-then-depth-eq0-2.ensures) (deep_open_reads c.args.reader c.args.depth c.args.tokens.now c.in-Some-behind_open.inner.now c.if-depth-eq0-2.true (sym c.in-Some-behind_open.ensures.reads))

pub single_at-returns-in_err-condition-2-clause-reads :
    goal.single_at-returns-in_err-condition-2-clause-reads
single_at-returns-in_err-condition-2-clause-reads t c =
    let less : c.args.depth ≡ suc (c.args.depth - 1) = omega arith in
    let passed = err_from_is_err_and c.from_residual-in_err-condition-2.result c.from_residual-in_err-condition-2.ensures.1 in
    rw (passed.1, passed.2) (enclosed_fails c.args.reader (c.args.depth - 1) c.args.depth c.args.tokens.now c.in-Some-behind_open.inner.now c.in_err-condition-2.field-0.0 less (sym c.in-Some-behind_open.ensures.reads) c.in_err-condition-2.ensures.reads)
