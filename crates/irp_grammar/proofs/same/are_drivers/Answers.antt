use Rattle.std.proofs.Common.{arith, refl}
use Rattle.std.proofs.lemmas.List.{same_lists}
use Rattle.irp_grammar.proofs.same.are_drivers.Goals as goal

pub returns : goal.returns
returns c = (
  λ _. same_lists c.args.one.now c.args.other.now (omega (arith, c.if-one-other.false))
      (λ k d below. c.loop-place.invariant k d (omega (arith, below, c.loop-place-test.false))),
  λ _. refl,
)
