use Rattle.std.proofs.Common.{◌≡◌, ◌∙◌, arith, true}
use Rattle.irp_orders.proofs.Pairing.{alike_by}
use Rattle.irp_orders.proofs.alike.have_partners.Goals as goal

pub returns : goal.returns
returns c = λ alike same.
    let paired : c.in_ok-pair_all.field-0 ≡ true = grind (arith, c.if-not-branch.false) in
    alike_by c.args.one.now c.args.other.now c.as_slice.result.now c.as_slice-2.result.now c.as_slice-packets.result.now c.as_slice-3.result.now
    c.pair_all.new.pairs.items c.pair_packets.new.pairs.items (c.as_slice.ensures.value ∙ c.in_ok-uses.ensures)
    (c.as_slice-2.ensures.value ∙ c.in_ok-others.ensures) c.as_slice-packets.ensures c.as_slice-3.ensures (c.in_ok-pair_all.ensures.partners paired)
    c.in_ok-may.ensures.more c.in_ok-may.ensures.once (c.in_ok-may.ensures.partners alike) same
