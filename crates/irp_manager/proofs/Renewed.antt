-- A packet that is used again in its slot.
use Rattle.std.proofs.Common.{◌≡◌, ℕ, ◌+◌, Bool, [], ◌∷◌, Option, Some, None, MatchOption, refl, sym, ◌∙◌, ap, subst}
use Rattle.std.specs.FinMap as fin
use Rattle.irp_types.specs.Checks.{first_failing, or_else}
use Rattle.irp_types.specs.Packet.{after_reset}
use Rattle.irp_types.specs.State.{StateValue, Fixed, LivePacket, live_at, packet_of}
use Rattle.irp_types.specs.Refusals.{packet_refusal, flight_check, use_check}
use Rattle.irp_types.specs.Standing.{StandingFacts}
use Rattle.irp_types.specs.Steps.{Unasked, Effect, Step, with_new_packet}
use Rattle.irp_types.specs.declared.names.IrpRef.{IrpRef}
use Rattle.irp_types.specs.declared.status.Status.{Status}
use Rattle.irp_types.specs.declared.routine.Known.{Known}
use Rattle.irp_types.specs.declared.call.Call.TheVariants.{Reuse}
use Rattle.irp_types.specs.declared.refusal.Refusal.{Refusal}
use Rattle.irp_types.specs.declared.reply.Reply.{Reply}
use Rattle.irp_types.specs.declared.reply.Reply.TheVariants.{Irp, Refused}
use Rattle.irp_manager.specs.Slots.{Slots}
use Rattle.irp_manager.specs.Calls.{reuse_refusal_in}
use Rattle.irp_manager.proofs.Maps.{insert_same}
use Rattle.irp_manager.proofs.OnePacket.{found, packet_checked}
use Rattle.irp_manager.proofs.Sound.{sound_reset}
use Rattle.irp_manager.proofs.Fresh.{stands_new}

-- the checks of a reuse, where the slot has a packet
checked : (state : StateValue) (irp : IrpRef) (live : LivePacket) → live_at state irp.slot ≡ Some live
    → or_else (packet_refusal state irp) (first_failing (flight_check (packet_of state irp) ∷ use_check state ∷ [])) ≡ reuse_refusal_in live irp state.next_use
checked state irp live at = λ i. or_else (packet_checked state irp live at i) (first_failing (flight_check (found state irp.slot live at i).packet ∷ use_check state ∷ []))

-- a packet that was lent and came back as it was
pub kept : (state : StateValue) (slot : ℕ) (live new : LivePacket) (slots : Slots) → live_at state slot ≡ Some live → slots ≡ fin.insert state.live slot new → new ≡ live
    → record state { live = slots } ≡ state
kept state slot live new slots at put same =
    let is : slots ≡ state.live = put ∙ ap (fin.insert state.live slot) same ∙ insert_same state.live slot live at in
    λ i. record state { live = is i }

pub refused_step : (fixed : Fixed) (state : StateValue) (drained : Bool) (irp : IrpRef) (status : Status) (live new : LivePacket) (slots : Slots) (refusal : Refusal)
    → live_at state irp.slot ≡ Some live → slots ≡ fin.insert state.live irp.slot new → new ≡ live → reuse_refusal_in live irp state.next_use ≡ Some refusal
    → Step fixed state drained (Reuse irp status) [] (Refused refusal) (record state { live = slots })
refused_step fixed state drained irp status live new slots refusal at put same is =
    let after : StateValue = record state { live = slots } in
    let reply : Reply = Refused refusal in
    subst (λ (given : Option Refusal). MatchOption given (Effect fixed state (Reuse irp status) [] reply after) (λ refused. Unasked [] reply after (Refused refused) state))
    (sym (checked state irp live at ∙ is)) (refl, refl, kept state irp.slot live new slots at put same)

-- the state with the packet of another use
renewed : (state : StateValue) (slot : ℕ) (live : LivePacket) (status : Status) (slots : Slots)
    → slots ≡ fin.insert state.live slot (record { packet = after_reset live.packet status; use_no = state.next_use })
    → record state { live = slots; next_use = state.next_use + 1 } ≡ with_new_packet state slot (after_reset live.packet status)
renewed state slot live status slots put = λ i. record state { live = put i; next_use = state.next_use + 1 }

pub renewed_step : (fixed : Fixed) (state : StateValue) (drained : Bool) (irp : IrpRef) (status : Status) (live : LivePacket) (slots : Slots)
    → live_at state irp.slot ≡ Some live → slots ≡ fin.insert state.live irp.slot (record { packet = after_reset live.packet status; use_no = state.next_use })
    → reuse_refusal_in live irp state.next_use ≡ None
    → Step fixed state drained (Reuse irp status) [] (Irp (record { slot = irp.slot; use_no = state.next_use })) (record state { live = slots; next_use = state.next_use + 1 })
renewed_step fixed state drained irp status live slots at put is =
    let after : StateValue = record state { live = slots; next_use = state.next_use + 1 } in
    let reply : Reply = Irp (record { slot = irp.slot; use_no = state.next_use }) in
    let made : after ≡ with_new_packet state irp.slot (after_reset (packet_of state irp) status) =
    renewed state irp.slot live status slots put ∙ ap (λ (given : LivePacket). with_new_packet state irp.slot (after_reset given.packet status)) (sym (found state irp.slot live at)) in
    subst (λ (given : Option Refusal). MatchOption given (Effect fixed state (Reuse irp status) [] reply after) (λ refused. Unasked [] reply after (Refused refused) state))
    (sym (checked state irp live at ∙ is)) (refl, refl, made)

pub renewed_stands : (counts : Known) (state : StateValue) (slot : ℕ) (live : LivePacket) (status : Status) (slots : Slots)
    → live_at state slot ≡ Some live → slots ≡ fin.insert state.live slot (record { packet = after_reset live.packet status; use_no = state.next_use })
    → StandingFacts counts state → StandingFacts counts (record state { live = slots; next_use = state.next_use + 1 })
renewed_stands counts state slot live status slots at put stands =
    subst (StandingFacts counts) (sym (renewed state slot live status slots put))
    (stands_new counts state slot (after_reset live.packet status) (sound_reset counts live.packet status (stands.packets slot live at)) stands)
