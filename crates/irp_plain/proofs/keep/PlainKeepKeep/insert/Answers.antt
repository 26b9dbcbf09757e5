use Rattle.std.proofs.Common.{arith, ap, ◌∙◌, length, List, Option}
use Rattle.std.specs.FinMap as fin
use Rattle.irp_types.specs.Packet.{PacketValue}
use Rattle.irp_types.specs.State.{LivePacket}
use Rattle.irp_manager.specs.Slots.{Slots, live_of}
use Rattle.irp_manager.proofs.SlotMaps.{live-put}
use Rattle.irp_plain.proofs.keep.PlainKeepKeep.insert.Goals as goal

pub returns-clause-put : goal.returns-clause-put
returns-clause-put c =
    let slot = c.choose-slot.result in
    let live : LivePacket = record { packet = c.of_size.result; use_no = c.args.use_no } in
    live-put c.self.inside.places.items slot live (omega (arith, c.in_ok-reach.ensures.there, ap length c.self.view_is))
    ∙ ap (λ (places : List (Option LivePacket)). fin.insert (live_of places) slot live) c.self.view_is
    ∙ ap (λ (slots : Slots). fin.insert slots slot live) c.in_ok-reach.ensures.same
    ∙ ap (λ (packet : PacketValue). fin.insert (live_of c.args.self.now) slot (record { packet = packet; use_no = c.args.use_no })) c.of_size.ensures
