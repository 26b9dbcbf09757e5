-- From what a call did with one packet to its step, and to the standing facts.
use Rattle.std.proofs.Common.{◌≡◌, ℕ, Bool, true, false, not, List, [], ◌∷◌, ◌++◌, Option, Some, None, MatchOption, refl, sym, ◌∙◌, ap, subst}
use Rattle.irp_types.specs.Checks.{Check, first_failing, or_else}
use Rattle.irp_types.specs.Packet.{PacketValue, set_next_refusal, copy_to_next_refusal, mark_pending_refusal, after_set_next, after_copy, after_skip, after_set_routine, after_mark}
use Rattle.irp_types.specs.Stacks.{delete_checks}
use Rattle.irp_types.specs.State.{StateValue, LivePacket, Fixed, packet_of, with_packet}
use Rattle.irp_types.specs.Refusals.{is_in_flight, has_ended, packet_refusal, leave_refusal, routine_refusal, cancel_refusal, take_refusal}
use Rattle.irp_types.specs.Steps.{Unasked, Effect, Step}
use Rattle.irp_types.specs.Standing.{IsSound}
use Rattle.irp_types.specs.declared.names.IrpRef.{IrpRef}
use Rattle.irp_types.specs.declared.names.CancelId.{CancelId}
use Rattle.irp_types.specs.declared.status.Status.{Status}
use Rattle.irp_types.specs.declared.routine.Known.{Known}
use Rattle.irp_types.specs.declared.routine.Setting.{Setting}
use Rattle.irp_types.specs.declared.call.Call.TheVariants.{FinishTaken}
use Rattle.irp_types.specs.declared.asked.Asked.{Asked}
use Rattle.irp_types.specs.declared.refusal.Refusal.{Refusal}
use Rattle.irp_types.specs.declared.refusal.Refusal.TheVariants.{InFlight, NotDrained}
use Rattle.irp_types.specs.declared.reply.Reply.{Reply}
use Rattle.irp_types.specs.declared.reply.Reply.TheVariants.{Done, Previous, Refused}
use Rattle.irp_manager.specs.Calls.{Goes, Fills, Copies, Leaves, Sets, Marks, Takes, SetsCancel}
use Rattle.irp_manager.proofs.OnePacket.{GoesOn}
use Rattle.irp_manager.proofs.Sound.{sound_set_next, sound_copy, sound_skip, sound_set_routine, sound_mark, sound_set_cancel}

-- an effect in place of another, where nothing was refused
pub if_none : (refusal : Option Refusal) (one two : Type 0) (refused : Refusal → Type 0) → (one → two) → MatchOption refusal one refused → MatchOption refusal two refused
if_none None one two refused turn goes = turn goes
if_none (Some given) one two refused turn goes = goes

-- what holds of a packet before a call that asks nothing, and of what the call makes of it, holds after the call
kept_by : (P : PacketValue → Type 0) (refusal : Option Refusal) (after : PacketValue) (reply told : Reply) (live new : LivePacket)
    → Goes refusal (λ packet. (packet ≡ after) × (◌≡◌ {A = List Asked} [] []) × (reply ≡ told)) live new [] reply
    → (refusal ≡ None → P after) → P live.packet → P new.packet
kept_by P None after reply told live new goes made before = subst P (sym (goes.1.0) ∙ ap (λ (given : LivePacket). given.packet) (sym goes.2)) (made refl)
kept_by P (Some refusal) after reply told live new goes made before = subst P (ap (λ (given : LivePacket). given.packet) (sym goes.2)) before

pub filled_sound : (counts : Known) (major word : ℕ) (reply : Reply) (live new : LivePacket)
    → Goes (set_next_refusal live.packet major) (Fills major word [] reply live.packet) live new [] reply
    → live.packet.slot_held ≡ false → IsSound counts live.packet → IsSound counts new.packet
filled_sound counts major word reply live new goes unheld sound =
    kept_by (IsSound counts) (set_next_refusal live.packet major) (after_set_next live.packet major word) reply Done live new goes (λ none. sound_set_next counts live.packet major word unheld none sound) sound

pub copied_sound : (counts : Known) (reply : Reply) (live new : LivePacket)
    → Goes (copy_to_next_refusal live.packet) (Copies [] reply live.packet) live new [] reply
    → live.packet.slot_held ≡ false → IsSound counts live.packet → IsSound counts new.packet
copied_sound counts reply live new goes unheld sound =
    kept_by (IsSound counts) (copy_to_next_refusal live.packet) (after_copy live.packet None) reply Done live new goes (λ none. sound_copy counts live.packet unheld none sound) sound

pub left_sound : (counts : Known) (reply : Reply) (live new : LivePacket)
    → Goes (leave_refusal live.packet) (Leaves [] reply live.packet) live new [] reply
    → has_ended live.packet.owner ≡ false → live.packet.slot_held ≡ false → IsSound counts live.packet → IsSound counts new.packet
left_sound counts reply live new goes used unheld sound =
    kept_by (IsSound counts) (leave_refusal live.packet) (after_skip live.packet) reply Done live new goes (λ none. sound_skip counts live.packet used unheld none sound) sound

pub marked_sound : (counts : Known) (reply : Reply) (live new : LivePacket)
    → Goes (mark_pending_refusal live.packet) (Marks [] reply live.packet) live new [] reply
    → IsSound counts live.packet → IsSound counts new.packet
marked_sound counts reply live new goes sound =
    kept_by (IsSound counts) (mark_pending_refusal live.packet) (after_mark live.packet live.packet.current) reply Done live new goes (λ none. sound_mark counts live.packet none sound) sound

pub cancel_sound : (counts : Known) (cancel : Option CancelId) (reply : Reply) (live new : LivePacket)
    → Goes (cancel_refusal counts live.packet cancel) (SetsCancel cancel [] reply live.packet) live new [] reply
    → has_ended live.packet.owner ≡ false → live.packet.slot_held ≡ false → IsSound counts live.packet → IsSound counts new.packet
cancel_sound counts cancel reply live new goes used unheld sound =
    kept_by (IsSound counts) (cancel_refusal counts live.packet cancel) (record live.packet { cancel_routine = cancel }) reply (Previous live.packet.cancel_routine) live new goes
    (λ none. sound_set_cancel counts live.packet cancel used unheld none sound) sound

pub set_sound : (counts : Known) (setting : Setting) (reply : Reply) (live new : LivePacket)
    → Goes (routine_refusal counts live.packet setting) (Sets setting [] reply live.packet) live new [] reply
    → has_ended live.packet.owner ≡ false → live.packet.slot_held ≡ false → IsSound counts live.packet → IsSound counts new.packet
set_sound counts setting reply live new goes used unheld sound =
    kept_by (IsSound counts) (routine_refusal counts live.packet setting) (after_set_routine live.packet setting) reply Done live new goes
    (λ none. sound_set_routine counts live.packet setting used unheld none sound) sound

pub taken_step : (fixed : Fixed) (drained : Bool) (old : StateValue) (irp : IrpRef) (token : ℕ) (status : Status) (information : ℕ) (asked : List Asked) (reply : Reply) (new : StateValue)
    → GoesOn (or_else (packet_refusal old irp) (take_refusal (packet_of old irp) irp.use_no token status)) (Takes irp status information asked reply (packet_of old irp)) old irp.slot asked reply new
    → Step fixed old drained (FinishTaken irp token status information) asked reply new
taken_step fixed drained old irp token status information asked reply new goes =
    if_none (or_else (packet_refusal old irp) (take_refusal (packet_of old irp) irp.use_no token status))
    ((packet : PacketValue) × Takes irp status information asked reply (packet_of old irp) packet × (new ≡ with_packet old irp.slot packet))
    (Effect fixed old (FinishTaken irp token status information) asked reply new)
    (λ refusal. Unasked asked reply new (Refused refusal) old)
    (λ done. (done.0, done.1.0, done.1.1, done.2)) goes

-- a device that no check of its deletion refuses passes those of its stack
pub deletable : (state : StateValue) (drained : Bool) (device : ℕ)
    → first_failing (delete_checks state.devices device ++ (is_in_flight state device, InFlight) ∷ (not drained, NotDrained) ∷ []) ≡ None
    → first_failing (delete_checks state.devices device) ≡ None
deletable state drained device none = front (delete_checks state.devices device) ((is_in_flight state device, InFlight) ∷ (not drained, NotDrained) ∷ []) none
  where
    front : (checks others : List Check) → first_failing (checks ++ others) ≡ None → first_failing checks ≡ None
    front [] others none = refl
    front ((true, refusal) ∷ checks) others none = none
    front ((false, refusal) ∷ checks) others none = front checks others none
