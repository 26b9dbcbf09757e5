use Rattle.std.proofs.Common.{arith, refl}
use Rattle.irp_grammar.specs.Saying.{plan_line}
use Rattle.irp_grammar.proofs.Mapped.{are_mapped}
use Rattle.irp_grammar.proofs.same.are_plans.Goals as goal

pub returns : goal.returns
returns c = (
  λ _. are_mapped plan_line c.args.plans.now c.args.lines.now (omega (arith, c.if-lines-plans.false))
      (λ k d e below. c.loop-place.invariant k d e (omega (arith, below, c.if-lines-plans.false, c.loop-place-test.false))),
  λ _. refl,
)
