use Rattle.std.proofs.Common.{◌≡◌, ◌<◌, arith, length, take, true}
use Rattle.irp_orders.specs.Alike.{ArePartners}
use Rattle.irp_orders.proofs.Pairing.{all_partners_more, zip_next}
use Rattle.irp_orders.proofs.alike.pair_all.Goals as goal

pub loop-place-preserved : goal.loop-place-preserved
loop-place-preserved c =
    let place = c.loop-place.place in
    let old = c.loop-place.pairs.items in
    let new = c.pair.new.pairs.items in
    let low : c.loop-place.place < length c.args.ones.now = omega (arith, c.loop-place-test.true) in
    let other : c.loop-place.place < length c.args.others.now = omega (arith, low, c.if-ones-others.false) in
    let may : c.in_ok-pair.field-0 ≡ true = grind (arith, c.if-not-branch.false) in
    record {
      once = c.in_ok-pair.ensures.once;
      partners =
          zip_next (ArePartners new) c.args.ones.now c.args.others.now place _ _ low other
          (all_partners_more old new (take place c.args.ones.now) (take place c.args.others.now) c.in_ok-pair.ensures.more
          c.loop-place.invariant.partners)
          (c.in_ok-pair.ensures.partners may);
    }
