use Rattle.std.proofs.Common.{length, sym, ◌∙◌}
use Rattle.irp_routines.specs.Tables.{refusal_at}
use Rattle.irp_routines.proofs.FirstReasons.{first_at, none_more}
use Rattle.irp_routines.proofs.drivers.pairs_refusal.Goals as goal

pub returns-in-Some : goal.returns-in-Some
returns-in-Some c =
    let pairs = c.args.pairs.now in
    sym (first_at (refusal_at c.args.dispatches pairs) c.loop-place.place (length pairs) c.in-Some.reason c.loop-place-test.true c.loop-place.invariant (sym c.pair_refusal.ensures ∙ c.in-Some.is))

pub loop-place-preserved : goal.loop-place-preserved
loop-place-preserved c =
    none_more (refusal_at c.args.dispatches c.args.pairs.now) c.loop-place.place c.loop-place.invariant (sym c.pair_refusal.ensures ∙ c.in_default.is)
