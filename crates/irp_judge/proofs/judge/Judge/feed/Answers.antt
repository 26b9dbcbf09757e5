use Rattle.std.proofs.Common.{◌+◌, ◌<◌, ◌^◌, [], ◌∷◌, ◌++◌, sym, subst, arith}
use Rattle.irp_judge.specs.Judging.{JudgeValue, HasJudged}
use Rattle.irp_judge.proofs.judge.Judge.feed.Goals as goal

pub returns-clause-judged : goal.returns-clause-judged
returns-clause-judged c = λ history has low.
    let counted : c.make_again.new.self.fed + 1 < 2 ^ 64 = omega (arith, c.make_again.ensures.fed, has.counted, low) in
    subst (λ (given : JudgeValue). HasJudged given (history ++ c.args.entry.now ∷ [])) (sym (c.count.ensures.counted counted)) (c.in_ok-make_again.ensures.judged history has)
