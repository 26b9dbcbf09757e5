-- The packet that a reference names.
use Rattle.std.proofs.Common.{◌≡◌, Option, Some, None, refl, sym, ap, subst, arith}
use Rattle.std.specs.Prelude.{unwrap_or}
use Rattle.irp_types.specs.Packet.{new_packet}
use Rattle.irp_types.specs.State.{StateValue, LivePacket, live_at, packet_of}
use Rattle.irp_types.specs.Standing.{IsSound, StandingFacts}
use Rattle.irp_types.specs.declared.names.IrpRef.{IrpRef}
use Rattle.irp_types.specs.declared.routine.Known.{Known}
use Rattle.irp_manager.proofs.Sound.{sound_new}
use Rattle.irp_manager.proofs.OnePacket.{found}

-- the packet that a reference names by its slot keeps the standing facts, live or not
pub sound_named : (counts : Known) (state : StateValue) (irp : IrpRef) → StandingFacts counts state → IsSound counts (packet_of state irp)
sound_named counts state irp stands = by (live_at state irp.slot) refl
  where
    by : (given : Option LivePacket) → live_at state irp.slot ≡ given → IsSound counts (packet_of state irp)
    by None at =
        let new : LivePacket = record { packet = new_packet 1; use_no = 0 } in
        let is : packet_of state irp ≡ new_packet 1 = ap (λ (there : Option LivePacket). (unwrap_or there new).packet) at in
        subst (IsSound counts) (sym is) (sound_new counts 1 (omega arith) (omega arith))
    by (Some live) at = subst (λ (given : LivePacket). IsSound counts given.packet) (sym (found state irp.slot live at)) (stands.packets irp.slot live at)
