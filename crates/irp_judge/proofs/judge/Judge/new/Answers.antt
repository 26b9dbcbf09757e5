use Rattle.std.proofs.Common.{sym, ◌∙◌}
use Rattle.irp_judge.proofs.Judged.{judged_nothing}
use Rattle.irp_judge.proofs.judge.Judge.new.Goals as goal

pub invariant_of-result : goal.invariant_of-result
invariant_of-result c = record {
  agree = c.requires.tables;
  stands = c.with_limit.ensures.stands c.args.header.now.completions;
  agrees = (sym c.with_limit.ensures.fixed.0, sym (c.with_limit.ensures.fixed.1 ∙ c.limit.ensures));
}

pub returns-clause-judged : goal.returns-clause-judged
returns-clause-judged c = judged_nothing c.args.header.now _ c.with_limit.ensures.state
