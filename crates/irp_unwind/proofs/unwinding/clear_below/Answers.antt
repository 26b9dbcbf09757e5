use Rattle.std.proofs.Common.{arith, ◌≡◌, ◌+◌, ◌-◌, ◌<◌, ◌++◌, suc, replicate, drop, set, ◌∙◌, ap}
use Rattle.irp_types.specs.Packet.{PacketValue, size_of, cleared}
use Rattle.irp_unwind.proofs.Bared.{cleared_more}
use Rattle.irp_unwind.proofs.unwinding.clear_below.Goals as goal

pub loop-number-preserved : goal.loop-number-preserved
loop-number-preserved c =
    let packet = c.args.packet.now in
    let number = c.loop-number.number in
    let below : number - 1 < size_of packet = omega (arith, c.loop-number-test.true, c.current-number-end.ensures.current, c.requires, c.loop-number.auto.number) in
    let next : suc (number - 1) ≡ (number + 1) - 1 = omega (arith, c.loop-number.auto.number) in
    c.clear.ensures
    ∙ ap (λ (value : PacketValue). record value { locations = set value.locations (number - 1) cleared }) c.loop-number.invariant
    ∙ ap (λ items. record packet { locations = items }) (cleared_more (number - 1) cleared packet.locations below ∙ ap (λ count. replicate count cleared ++ drop count packet.locations) next)
