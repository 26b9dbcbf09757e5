-- What a call on one live packet does.
use Rattle.std.specs.Prelude.{ℕ, ◌≡◌, not, ◌==◌, List, [], ◌∷◌, ◌++◌, Option, Some, None, nat_le}
use Rattle.irp_types.specs.Limits.{use_limit}
use Rattle.irp_types.specs.Checks.{first_failing, or_else}
use Rattle.irp_types.specs.Packet.{PacketValue, with_status, after_set_next, after_copy, after_skip, after_set_routine}
use Rattle.irp_types.specs.Packet.{after_mark, after_take, after_reset}
use Rattle.irp_types.specs.Stacks.{DevicesValue}
use Rattle.irp_types.specs.State.{LivePacket, Tables}
use Rattle.irp_types.specs.Descent.{Descended}
use Rattle.irp_types.specs.Refusals.{has_ended, is_owner, slot_check, flight_check}
use Rattle.irp_types.specs.Steps.{Completes, Follows, Cancels}
use Rattle.irp_types.specs.declared.names.IrpRef.{IrpRef}
use Rattle.irp_types.specs.declared.names.CancelId.{CancelId}
use Rattle.irp_types.specs.declared.status.Status.{Status}
use Rattle.irp_types.specs.declared.routine.Setting.{Setting}
use Rattle.irp_types.specs.declared.answer.CancelAnswer.{CancelAnswer}
use Rattle.irp_types.specs.declared.call.Party.{Party}
use Rattle.irp_types.specs.declared.asked.Asked.{Asked}
use Rattle.irp_types.specs.declared.refusal.Refusal.{Refusal}
use Rattle.irp_types.specs.declared.refusal.Refusal.TheVariants.{NoIrp, Stale, NotOwner, Ended, Full}
use Rattle.irp_types.specs.declared.reply.Reply.{Reply}
use Rattle.irp_types.specs.declared.reply.Reply.TheVariants.{Done, Status as StatusIs, Previous, Refused}

-- the checks of a reference, at what stands in its slot
abbrev pub packet_refusal_in : Option LivePacket → IrpRef → Option Refusal
packet_refusal_in None irp = Some NoIrp
packet_refusal_in (Some live) irp = first_failing ((not (live.use_no == irp.use_no), Stale) ∷ [])

-- the checks of a reference and a party, at what stands in the slot
abbrev pub party_refusal_in : Option LivePacket → Party → IrpRef → Option Refusal
party_refusal_in None party irp = Some NoIrp
party_refusal_in (Some live) party irp = first_failing (
    (not (live.use_no == irp.use_no), Stale)
    ∷ (has_ended live.packet.owner, Ended)
    ∷ (not (is_owner party live.packet.owner), NotOwner) ∷ slot_check live.packet ∷ [])

-- the checks of giving a packet back, at what stands in the slot
abbrev pub flight_refusal_in : LivePacket → IrpRef → Option Refusal
flight_refusal_in live irp = or_else (packet_refusal_in (Some live) irp) (first_failing (flight_check live.packet ∷ []))

-- the checks of using a packet again under this number, at what stands in the slot
abbrev pub reuse_refusal_in : LivePacket → IrpRef → ℕ → Option Refusal
reuse_refusal_in live irp use_no =
    or_else (packet_refusal_in (Some live) irp) (first_failing
    (flight_check live.packet ∷ (nat_le use_limit use_no, Full) ∷ []))

-- a packet was refused another use and is as before, or it is as newly allocated, with this status, under this number
abbrev pub Renews : Option Refusal → Status → ℕ → LivePacket → LivePacket → Type 0
Renews None status use_no old new = new ≡ record { packet = after_reset old.packet status; use_no = use_no }
Renews (Some refusal) status use_no old new = new ≡ old

-- a live packet was refused and is as before, or it has become one that the relation allows
abbrev pub Goes : Option Refusal → (PacketValue → Type 0) → LivePacket → LivePacket → List Asked → Reply → Type 0
Goes None becomes old new asked reply = (packet : PacketValue) × becomes packet × (new ≡ record old { packet = packet })
Goes (Some refusal) becomes old new asked reply = (asked ≡ []) × (reply ≡ Refused refusal) × (new ≡ old)

-- the next location was filled
abbrev pub Fills : ℕ → ℕ → List Asked → Reply → PacketValue → PacketValue → Type 0
Fills major word asked reply old new = (new ≡ after_set_next old major word) × (asked ≡ []) × (reply ≡ Done)

-- the next location became the copy of the current one
abbrev pub Copies : List Asked → Reply → PacketValue → PacketValue → Type 0
Copies asked reply old new = (new ≡ after_copy old None) × (asked ≡ []) × (reply ≡ Done)

-- the owner gave its location away
abbrev pub Leaves : List Asked → Reply → PacketValue → PacketValue → Type 0
Leaves asked reply old new = (new ≡ after_skip old) × (asked ≡ []) × (reply ≡ Done)

-- the current location was marked pending
abbrev pub Marks : List Asked → Reply → PacketValue → PacketValue → Type 0
Marks asked reply old new = (new ≡ after_mark old old.current) × (asked ≡ []) × (reply ≡ Done)

-- the packet was given a cancel routine, or none
abbrev pub SetsCancel : Option CancelId → List Asked → Reply → PacketValue → PacketValue → Type 0
SetsCancel cancel asked reply old new =
    (new ≡ record old { cancel_routine = cancel }) × (asked ≡ []) × (reply ≡ Previous old.cancel_routine)

-- the next location was given a completion routine
abbrev pub Sets : Setting → List Asked → Reply → PacketValue → PacketValue → Type 0
Sets setting asked reply old new = (new ≡ after_set_routine old setting) × (asked ≡ []) × (reply ≡ Done)

-- the packet was sent
abbrev pub Sends : Tables → IrpRef → DevicesValue → ℕ → List Asked → Reply → PacketValue → PacketValue → Type 0
Sends tables irp devices target asked reply old new =
    (status : Status) × Descended tables irp devices old target asked new status × (reply ≡ StatusIs status)

-- the packet was completed
abbrev pub Finishes : IrpRef → Status → ℕ → List Asked → Reply → PacketValue → PacketValue → Type 0
Finishes irp status information asked reply old new =
    Completes irp (with_status old status information) asked new × (reply ≡ Done)

-- the packet was taken from its cancel slot and completed
abbrev pub Takes : IrpRef → Status → ℕ → List Asked → Reply → PacketValue → PacketValue → Type 0
Takes irp status information asked reply old new =
    Completes irp (with_status (after_take old) status information) asked new × (reply ≡ Done)

-- the packet was cancelled
abbrev pub IsCancelled : Tables → IrpRef → List Asked → Reply → PacketValue → PacketValue → Type 0
IsCancelled tables irp asked reply old new = Cancels tables irp old old.cancel_routine asked reply new

-- what follows a cancel routine's answer was done, and what was asked in it stands behind the others
pub record Followed (are_answered : List Asked → Type 0) (irp : IrpRef) (old new : PacketValue)
    (answer : CancelAnswer) (before after : List Asked) : Type 0 where
  pub later : List Asked
  pub follows : Follows irp old answer later new
  pub listed : after ≡ before ++ later
  pub answered : are_answered later
