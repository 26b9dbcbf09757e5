-- What a call would be refused with, by what stands in the slot that it names.
use Rattle.std.proofs.Common.{◌≡◌, Bool, true, false, not, ◌==◌, is_some, List, [], ◌∷◌, Option, Some, None, unwrap_or, refl, sym, ◌∙◌, ap}
use Rattle.irp_types.specs.Checks.{Check, first_failing, or_else}
use Rattle.irp_types.specs.Packet.{PacketValue}
use Rattle.irp_types.specs.Refusals.{has_ended, is_owner, slot_check, packet_refusal, party_refusal}
use Rattle.irp_types.specs.State.{StateValue, LivePacket, live_at, packet_of}
use Rattle.irp_types.specs.declared.call.Party.{Party}
use Rattle.irp_types.specs.declared.names.IrpRef.{IrpRef}
use Rattle.irp_types.specs.declared.refusal.Refusal.{Refusal}
use Rattle.irp_types.specs.declared.refusal.Refusal.TheVariants.{NoIrp, Stale, NotOwner, Ended}
use Rattle.irp_manager.specs.Calls.{packet_refusal_in, party_refusal_in}
use Rattle.irp_manager.proofs.OnePacket.{found, nothing, packet_checked, party_checked}

-- nothing stands there
pub no_packet : (state : StateValue) (irp : IrpRef) → live_at state irp.slot ≡ None → packet_refusal state irp ≡ Some NoIrp
no_packet state irp at =
    ap (λ (given : Option LivePacket).
    first_failing ((not (is_some given), NoIrp) ∷ (not ((unwrap_or given nothing).use_no == irp.use_no), Stale) ∷ [])) at

no_party : (state : StateValue) (party : Party) (irp : IrpRef) → live_at state irp.slot ≡ None → party_refusal state party irp ≡ Some NoIrp
no_party state party irp at =
    ap (λ (given : Option LivePacket).
    let packet = unwrap_or given nothing in
    first_failing (
    (not (is_some given), NoIrp)
    ∷ (not (packet.use_no == irp.use_no), Stale)
    ∷ (has_ended packet.packet.owner, Ended)
    ∷ (not (is_owner party packet.packet.owner), NotOwner)
    ∷ slot_check packet.packet ∷ [])) at

pub without_packet : (state : StateValue) (irp : IrpRef) (later : Option Refusal) → live_at state irp.slot ≡ None → Some NoIrp ≡ or_else (packet_refusal state irp) later
without_packet state irp later at = ap (λ checks. or_else checks later) (sym (no_packet state irp at))

pub without_party : (state : StateValue) (party : Party) (irp : IrpRef) (later : Option Refusal) → live_at state irp.slot ≡ None → Some NoIrp ≡ or_else (party_refusal state party irp) later
without_party state party irp later at = ap (λ checks. or_else checks later) (sym (no_party state party irp at))

-- another packet stands there, or another party's
pub other_packet : (state : StateValue) (irp : IrpRef) (live : LivePacket) (refusal : Refusal) (later : Option Refusal) → live_at state irp.slot ≡ Some live
    → Some refusal ≡ packet_refusal_in (Some live) irp → Some refusal ≡ or_else (packet_refusal state irp) later
other_packet state irp live refusal later at is = ap (λ checks. or_else checks later) (is ∙ sym (packet_checked state irp live at))

pub other_party : (state : StateValue) (party : Party) (irp : IrpRef) (live : LivePacket) (refusal : Refusal) (later : Option Refusal) → live_at state irp.slot ≡ Some live
    → Some refusal ≡ party_refusal_in (Some live) party irp → Some refusal ≡ or_else (party_refusal state party irp) later
other_party state party irp live refusal later at is = ap (λ checks. or_else checks later) (is ∙ sym (party_checked state party irp live at))

-- the packet stands there, and its own checks follow
pub own_packet : (state : StateValue) (irp : IrpRef) (live : LivePacket) (later : PacketValue → Option Refusal) (result : Option Refusal) → live_at state irp.slot ≡ Some live
    → None ≡ packet_refusal_in (Some live) irp → result ≡ later live.packet → result ≡ or_else (packet_refusal state irp) (later (packet_of state irp))
own_packet state irp live later result at none is =
    is ∙ ap (λ (given : LivePacket). later given.packet) (sym (found state irp.slot live at))
    ∙ ap (λ checks. or_else checks (later (packet_of state irp))) (none ∙ sym (packet_checked state irp live at))

pub own_party : (state : StateValue) (party : Party) (irp : IrpRef) (live : LivePacket) (later : PacketValue → Option Refusal) (result : Option Refusal) → live_at state irp.slot ≡ Some live
    → None ≡ party_refusal_in (Some live) party irp → result ≡ later live.packet → result ≡ or_else (party_refusal state party irp) (later (packet_of state irp))
own_party state party irp live later result at none is =
    is ∙ ap (λ (given : LivePacket). later given.packet) (sym (found state irp.slot live at))
    ∙ ap (λ checks. or_else checks (later (packet_of state irp))) (none ∙ sym (party_checked state party irp live at))

-- one more check behind those that one of two groups has
pub longer : (checks : Option Refusal) (fails : Bool) (first refusal : Refusal) (rest : List Check)
    → or_else checks (first_failing ((fails, first) ∷ [])) ≡ Some refusal → Some refusal ≡ or_else checks (first_failing ((fails, first) ∷ rest))
longer (Some given) fails first refusal rest is = sym is
longer None true first refusal rest is = sym is
longer None false first refusal rest is = absurd (cc)

pub rest_left : (checks : Option Refusal) (fails : Bool) (first : Refusal) (rest : List Check)
    → or_else checks (first_failing ((fails, first) ∷ [])) ≡ None → first_failing rest ≡ or_else checks (first_failing ((fails, first) ∷ rest))
rest_left (Some given) fails first rest is = absurd (cc)
rest_left None true first rest is = absurd (cc)
rest_left None false first rest is = refl
