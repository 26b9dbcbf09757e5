use Rattle.std.proofs.Common.{arith, rules, ◌≡◌}
use Rattle.irp_grammar.proofs.Finding.{none_placed, one_placed}
use Rattle.irp_grammar.proofs.names.Names.place_of.Goals as goal

pub returns : goal.returns
returns c =
    none_placed c.args.self.now.labels.items c.args.text.now
    (λ k d below. c.loop-place.invariant k d (omega (arith, below, c.loop-place-test.false)))

pub returns-then-eq : goal.returns-then-eq
returns-then-eq c =
    let same : c.index.result.now.now ≡ c.args.text.now = search rules in
    one_placed c.args.self.now.labels.items c.args.text.now c.loop-place.place c.index.result.now
    (omega (arith, c.loop-place-test.true, c.len-place-end.ensures)) c.index.ensures same
