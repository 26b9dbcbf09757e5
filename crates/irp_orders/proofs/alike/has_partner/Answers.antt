use Rattle.std.proofs.Common.{◌≡◌, ◌<◌, arith, get_or, length, refl}
use Rattle.irp_orders.proofs.Pairing.{extends_none, kept}
use Rattle.irp_orders.proofs.alike.has_partner.Goals as goal
use Rattle.irp_orders.proofs.alike.has_partner.Goals.{
  else-is_as_far-via-then-is_as_far+in_ok-pair+else-branch,
  else-is_as_far-via-else-is_as_far,
}

pub returns-then-branch-clause-partner : goal.returns-then-branch-clause-partner
returns-then-branch-clause-partner c = λ yes.
    let other = c.index-others-place.result in
    let low : c.loop-place.place < length c.args.others.now = omega (arith, c.loop-place-test.true) in
    let at : get_or c.args.others.now c.loop-place.place c.index-others-place.result ≡ c.index-others-place.result = grind (arith, c.index-others-place.is) in
    (c.loop-place.place, other, low, at, (c.is_as_far.ensures c.if-is_as_far.true, c.in_ok-pair.ensures.partners c.if-branch.true))

pub loop-place-preserved : goal.loop-place-preserved
loop-place-preserved c =
    elim c.else-is_as_far.branch [
      | else-is_as_far-via-then-is_as_far+in_ok-pair+else-branch w ↦
          let state = kept c.args.pairs.now.items c.loop-place.pairs.items w.pair.new.pairs.items c.else-is_as_far.pairs.items
          (rw w.pairs-is refl) w.in_ok-pair.ensures.once c.loop-place.invariant.more w.in_ok-pair.ensures.more in
          record { once = state.0; more = state.1 }
      | else-is_as_far-via-else-is_as_far w ↦
          let state = kept c.args.pairs.now.items c.loop-place.pairs.items c.loop-place.pairs.items c.else-is_as_far.pairs.items
          (rw w.pairs-is refl) c.loop-place.invariant.once c.loop-place.invariant.more
          (extends_none c.loop-place.pairs.items) in
          record { once = state.0; more = state.1 }
    ]
