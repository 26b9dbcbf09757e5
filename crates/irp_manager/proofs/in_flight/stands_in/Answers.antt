use Rattle.std.proofs.Common.{◌≡◌, ◌+◌, ◌-◌, true, sym, ◌∙◌, arith}
use Rattle.irp_types.specs.Packet.{size_of}
use Rattle.irp_types.specs.Refusals.{stands_at}
use Rattle.irp_manager.proofs.Scan.{range_none, range_some}
use Rattle.irp_manager.proofs.in_flight.stands_in.Goals as goal

pub returns-then-stands_at : goal.returns-then-stands_at
returns-then-stands_at c =
    let packet = c.args.packet.now in
    let here : stands_at packet c.args.device.0 c.loop-number.number ≡ true = sym c.stands_at.ensures ∙ c.if-stands_at.true in
    sym (range_some (stands_at packet c.args.device.0) packet.current ((size_of packet + 1) - packet.current) c.loop-number.number
    (omega (arith, c.current-start.ensures.current, c.loop-number.auto.number)) (omega (arith, c.current-start.ensures.current, c.size-size.ensures.size, c.loop-number-test.true, c.loop-number.auto.number)) here)

pub returns : goal.returns
returns c =
    let packet = c.args.packet.now in
    let start = c.current-start.ensures.current in
    let size = c.size-size.ensures.size in
    sym (range_none (stands_at packet c.args.device.0) packet.current ((size_of packet + 1) - packet.current)
    (λ number from to. c.loop-number.invariant number (omega (arith, start)) (omega (arith, size, start, c.loop-number-test.false, c.current-start.ensures.within))))
