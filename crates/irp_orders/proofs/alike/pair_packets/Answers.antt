use Rattle.std.proofs.Common.{◌≡◌, ◌<◌, ◌≤◌, All, Any, List, arith, get_or, length, subst, sym, true}
use Rattle.std.proofs.lemmas.List.{take_all}
use Rattle.irp_machine.specs.declared.live_end.LiveEnd.{LiveEnd}
use Rattle.irp_orders.specs.Alike.{IsPartner}
use Rattle.irp_orders.proofs.Pairing.{extends_twice, packets_next}
use Rattle.irp_orders.proofs.alike.pair_packets.Goals as goal

pub loop-place-preserved : goal.loop-place-preserved
loop-place-preserved c =
    let old = c.loop-place.pairs.items in
    let new = c.has_partner.new.pairs.items in
    let one = c.index-ones-place.result in
    let low : c.loop-place.place < length c.args.ones.now = omega (arith, c.loop-place-test.true) in
    let at : get_or c.args.ones.now c.loop-place.place c.index-ones-place.result ≡ c.index-ones-place.result = grind (arith, c.index-ones-place.is) in
    let has : c.in_ok-has_partner.field-0 ≡ true = grind (arith, c.if-not-branch.false) in
    record {
      once = c.in_ok-has_partner.ensures.once;
      more = extends_twice c.args.pairs.now.items old new c.loop-place.invariant.more c.in_ok-has_partner.ensures.more;
      partners =
          packets_next old new c.args.ones.now c.args.others.now c.loop-place.place one low c.in_ok-has_partner.ensures.more
          c.loop-place.invariant.partners
          (subst (λ (live : LiveEnd). Any (IsPartner new live) c.args.others.now) (sym at) (c.in_ok-has_partner.ensures.partner has));
    }

pub returns-clause-partners : goal.returns-clause-partners
returns-clause-partners c = λ yes.
    let long : length c.args.ones.now ≤ c.loop-place.place = omega (arith, c.loop-place-test.false) in (
      omega (arith, c.if-ones-others.false),
      subst (λ (ones : List LiveEnd). All (λ one. Any (IsPartner c.loop-place.pairs.items one) c.args.others.now) ones)
          (take_all c.loop-place.place c.args.ones.now long) c.loop-place.invariant.partners,
    )
