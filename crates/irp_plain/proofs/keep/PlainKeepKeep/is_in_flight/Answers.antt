use Rattle.std.proofs.Common.{arith, ap, sym, ◌∙◌, length}
use Rattle.irp_types.specs.State.{LivePacket}
use Rattle.irp_types.specs.Refusals.{has_packet}
use Rattle.irp_manager.specs.Slots.{live_of}
use Rattle.irp_manager.proofs.Scan.{any_of, none_of}
use Rattle.irp_manager.proofs.SlotMaps.{get-live}
use Rattle.irp_plain.proofs.KeepMaps.{seen_at, some_within}
use Rattle.irp_plain.proofs.keep.PlainKeepKeep.is_in_flight.Goals as goal

pub returns-then-has_packet : goal.returns-then-has_packet
returns-then-has_packet c =
    let places = c.args.self.now in
    let at = c.loop-place.place-index in
    let place = seen_at c.deref-place-items.result.now places (c.deref-place-items.ensures.value ∙ c.self.view_is) at c.place-item.result (omega (arith, c.loop-place-test.true)) c.place-item.is in
    sym (any_of (λ (live : LivePacket). has_packet c.args.device.0 live.packet) (live_of places) at c.in-Some.live
    (get-live places at ∙ sym place ∙ c.in-Some.is) (sym c.has_packet.ensures ∙ c.if-has_packet.true))

pub returns : goal.returns
returns c =
    let places = c.args.self.now in
    sym (none_of (λ (live : LivePacket). has_packet c.args.device.0 live.packet) (live_of places) (λ slot live at.
    let there = sym (get-live places slot) ∙ at in
    let within = some_within places slot live there in
    c.loop-place.invariant slot live (omega (arith, within, c.loop-place-test.false, ap length (c.deref-place-items.ensures.value ∙ c.self.view_is))) there))
