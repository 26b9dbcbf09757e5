use Rattle.std.proofs.Common.{arith, refl}
use Rattle.irp_grammar.specs.Saying.{line_of}
use Rattle.irp_grammar.proofs.Mapped.{are_mapped}
use Rattle.irp_grammar.proofs.same.are_steps.Goals as goal

pub returns : goal.returns
returns c = (
  λ _. are_mapped line_of c.args.steps.now c.args.lines.now (omega (arith, c.if-lines-steps.false))
      (λ k d e below. c.loop-place.invariant k d e (omega (arith, below, c.if-lines-steps.false, c.loop-place-test.false))),
  λ _. refl,
)
