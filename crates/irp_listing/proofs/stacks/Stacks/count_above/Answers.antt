-- Where nothing stands above, all are counted; else one more is.
use Rattle.std.proofs.Common.{◌≡◌, ℕ, ◌+◌, ◌-◌, suc, sym, ap, ◌∙◌, arith}
use Rattle.irp_listing.specs.Stacks.{count_above, held}
use Rattle.irp_listing.proofs.Above.{all_counted, none_above, one_above}
use Rattle.irp_listing.proofs.stacks.Stacks.count_above.Goals as goal

pub returns-in-None-clause-exact : goal.returns-in-None-clause-exact
returns-in-None-clause-exact c =
    let last = none_above (held c.args.self.now.above) (64 - c.loop-count.count) c.loop-count.at (sym c.kept.ensures ∙ c.in-None.is) in
    omega (arith, last, c.loop-count.invariant)

pub loop-count-preserved : goal.loop-count-preserved
loop-count-preserved c =
    let left : ℕ = 64 - (c.loop-count.count + 1) in
    let more : 64 - c.loop-count.count ≡ suc left = omega (arith, c.loop-count-test.true) in
    let next = ap (λ (most : ℕ). count_above (held c.args.self.now.above) most c.loop-count.at) more
    ∙ one_above (held c.args.self.now.above) left c.loop-count.at c.in-Some.next (sym c.kept.ensures ∙ c.in-Some.is) in
    omega (arith, next, c.loop-count.invariant)

pub returns-clause-exact : goal.returns-clause-exact
returns-clause-exact c =
    let none : 64 - c.loop-count.count ≡ 0 = omega (arith, c.loop-count-test.false) in
    let last = ap (λ (most : ℕ). count_above (held c.args.self.now.above) most c.loop-count.at) none
    ∙ all_counted (held c.args.self.now.above) c.loop-count.at in
    omega (arith, last, c.loop-count.invariant, c.loop-count-test.false, c.loop-count.auto.count-end)
