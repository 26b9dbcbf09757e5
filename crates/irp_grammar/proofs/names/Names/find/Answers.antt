use Rattle.std.proofs.Common.{arith}
use Rattle.irp_grammar.proofs.Finding.{none_found}
use Rattle.irp_grammar.proofs.names.Names.find.Goals as goal

pub returns : goal.returns
returns c =
    none_found c.args.self.now.names.items c.args.part c.args.text.now
    (λ k d below. c.loop-name.invariant k d (omega (arith, below, c.loop-name-test.false)))
