-- One step of the manager.
use Rattle.std.specs.Prelude.{ℕ, ◌≡◌, ◌+◌, Bool, true, false, if◌then◌else◌, List, [], ◌∷◌, map, length, Option, Some}
use Rattle.std.specs.Prelude.{None, MatchOption}
use Rattle.std.specs.FinMap as fin
use Rattle.irp_types.specs.Status.{cancelled}
use Rattle.irp_types.specs.Allowed.{IsCancelAllowed}
use Rattle.irp_types.specs.Packet.{PacketValue, location_at, new_packet, with_status, after_set_next, after_copy}
use Rattle.irp_types.specs.Packet.{after_skip, after_set_routine, after_mark, after_take, after_reset, is_above_top}
use Rattle.irp_types.specs.Unwinding.{Asking, as_asked, Unwound}
use Rattle.irp_types.specs.Stacks.{top_of, cut_off_by, after_create, after_attach, after_detach, after_delete}
use Rattle.irp_types.specs.State.{StateValue, Fixed, Tables, live_at, packet_of, with_packet}
use Rattle.irp_types.specs.Descent.{Descended}
use Rattle.irp_types.specs.Refusals.{first_refusal}
use Rattle.irp_types.specs.declared.status.Status.{Status}
use Rattle.irp_types.specs.declared.names.IrpRef.{IrpRef}
use Rattle.irp_types.specs.declared.names.CancelId.{CancelId}
use Rattle.irp_types.specs.declared.names.DeviceId.{DeviceId}
use Rattle.irp_types.specs.declared.location.Owner.{Owner}
use Rattle.irp_types.specs.declared.location.Owner.TheVariants.{Originator, Device as OwnedBy, Ended}
use Rattle.irp_types.specs.declared.shown.Shown.{Shown}
use Rattle.irp_types.specs.declared.answer.CancelAnswer.{CancelAnswer}
use Rattle.irp_types.specs.declared.answer.CancelAnswer.TheVariants.{Finish, Leave}
use Rattle.irp_types.specs.declared.asked.Asked.{Asked}
use Rattle.irp_types.specs.declared.asked.Asked.TheVariants.{Cancel as CancelAsked}
use Rattle.irp_types.specs.Calls.{Call}
use Rattle.irp_types.specs.declared.call.Call.TheVariants.{CreateDevice, Attach, Detach, Delete, Allocate, Free, Reuse}
use Rattle.irp_types.specs.declared.call.Call.TheVariants.{SetNext, CopyToNext, Skip, SetRoutine, MarkPending}
use Rattle.irp_types.specs.declared.call.Call.TheVariants.{CallDriver, Complete, FinishTaken, SetCancelRoutine, Cancel}
use Rattle.irp_types.specs.declared.call.Call.TheVariants.{Look}
use Rattle.irp_types.specs.declared.reply.Seen.{Seen}
use Rattle.irp_types.specs.declared.reply.Reply.{Reply}
use Rattle.irp_types.specs.declared.reply.Reply.TheVariants.{Done, Device, Irp, Status as StatusIs, Previous, Cancelled}
use Rattle.irp_types.specs.declared.reply.Reply.TheVariants.{Seen as SeenAs, Refused}

-- what Look shows of a packet
abbrev pub seen_of : PacketValue → Seen
seen_of packet = record {
  owner = packet.owner;
  current = packet.current;
  status = packet.status;
  information = packet.information;
  cancel = packet.cancel;
  cancel_routine = packet.cancel_routine;
  pending_returned = packet.pending_returned;
  marked = if is_above_top packet then false else (location_at packet packet.current).pending;
}

-- the state with a new packet at this slot, which draws the next use number
abbrev pub with_new_packet : StateValue → ℕ → PacketValue → StateValue
with_new_packet state slot packet = record state {
  live = fin.insert state.live slot (record { packet = packet; use_no = state.next_use });
  next_use = state.next_use + 1;
}

-- nothing is asked, this is the reply, and the state becomes this one
abbrev pub Unasked : List Asked → Reply → StateValue → Reply → StateValue → Type 0
Unasked asked reply new this_reply this_state = (asked ≡ []) × (reply ≡ this_reply) × (new ≡ this_state)

-- a packet is unwound from its current location
abbrev pub Completes : IrpRef → PacketValue → List Asked → PacketValue → Type 0
Completes irp old asked new = (asking : List Asking) × Unwound irp old asking new × (asked ≡ map as_asked asking)

-- the device that owns a packet, if one does
abbrev pub owning_device : Owner → Option DeviceId
owning_device Originator = None
owning_device (OwnedBy device) = Some device
owning_device Ended = None

-- what a cancel routine is shown: the device that owns the packet, and the current location
abbrev pub shown_to_cancel : IrpRef → PacketValue → Shown
shown_to_cancel irp packet = record {
  device = owning_device packet.owner;
  irp = irp;
  major = (location_at packet packet.current).major;
  location = packet.current;
  word = (location_at packet packet.current).word;
  status = packet.status;
  information = packet.information;
  pending_returned = false;
  cancel = true;
  context = 0;
  has_lower = false;
}

-- the packet once its cancel flag is set and its cancel routine taken
abbrev pub after_cancel : PacketValue → PacketValue
after_cancel packet = record packet { cancel = true; cancel_routine = None }

-- what follows a cancel routine's answer: what it finishes is unwound with CANCELLED, what it leaves stays
abbrev pub Follows : IrpRef → PacketValue → CancelAnswer → List Asked → PacketValue → Type 0
Follows irp old (Finish information) asked new = Completes irp (with_status old cancelled information) asked new
Follows irp old Leave asked new = (asked ≡ []) × (new ≡ old)

-- a cancellation sets the flag, takes the cancel routine, and asks it where there is one, before any other
abbrev pub Cancels : Tables → IrpRef → PacketValue → Option CancelId → List Asked → Reply → PacketValue → Type 0
Cancels tables irp old None asked reply new = (asked ≡ []) × (reply ≡ Cancelled false) × (new ≡ after_cancel old)
Cancels tables irp old (Some routine) asked reply new =
    (answer : CancelAnswer) × (later : List Asked)
    × IsCancelAllowed tables routine answer
    × (asked ≡ CancelAsked routine (shown_to_cancel irp old) answer ∷ later)
    × Follows irp (after_cancel old) answer later new
    × (reply ≡ Cancelled true)

-- what a call does that no check refuses
abbrev pub Effect : Fixed → StateValue → Call → List Asked → Reply → StateValue → Type 0
Effect fixed old (CreateDevice driver lock) asked reply new =
    Unasked asked reply new (Device (record { 0 = length old.devices.facts }))
    (record old { devices = after_create old.devices driver lock })
Effect fixed old (Attach device to) asked reply new =
    Unasked asked reply new (Device (record { 0 = top_of old.devices to.0 }))
    (record old { devices = after_attach old.devices device.0 to.0 })
Effect fixed old (Detach lower) asked reply new =
    Unasked asked reply new (Device (record { 0 = cut_off_by old.devices lower.0 }))
    (record old { devices = after_detach old.devices lower.0 })
Effect fixed old (Delete device) asked reply new =
    Unasked asked reply new Done (record old { devices = after_delete old.devices device.0 })
Effect fixed old (Allocate size) asked reply new =
    (slot : ℕ) × (live_at old slot ≡ None)
    × Unasked asked reply new (Irp (record { slot = slot; use_no = old.next_use }))
    (with_new_packet old slot (new_packet size))
Effect fixed old (Free irp) asked reply new =
    Unasked asked reply new Done (record old { live = fin.remove old.live irp.slot })
Effect fixed old (Reuse irp status) asked reply new =
    Unasked asked reply new (Irp (record { slot = irp.slot; use_no = old.next_use }))
    (with_new_packet old irp.slot (after_reset (packet_of old irp) status))
Effect fixed old (SetNext party irp major word) asked reply new =
    Unasked asked reply new Done (with_packet old irp.slot (after_set_next (packet_of old irp) major word))
Effect fixed old (CopyToNext party irp) asked reply new =
    Unasked asked reply new Done (with_packet old irp.slot (after_copy (packet_of old irp) None))
Effect fixed old (Skip party irp) asked reply new =
    Unasked asked reply new Done (with_packet old irp.slot (after_skip (packet_of old irp)))
Effect fixed old (SetRoutine party irp setting) asked reply new =
    Unasked asked reply new Done (with_packet old irp.slot (after_set_routine (packet_of old irp) setting))
Effect fixed old (MarkPending party irp) asked reply new =
    Unasked asked reply new Done (with_packet old irp.slot (after_mark (packet_of old irp) (packet_of old irp).current))
Effect fixed old (CallDriver party irp target) asked reply new =
    (packet : PacketValue) × (status : Status)
    × Descended fixed.tables irp old.devices (packet_of old irp) target.0 asked packet status
    × (reply ≡ StatusIs status) × (new ≡ with_packet old irp.slot packet)
Effect fixed old (Complete party irp status information) asked reply new =
    (packet : PacketValue)
    × Completes irp (with_status (packet_of old irp) status information) asked packet
    × (reply ≡ Done) × (new ≡ with_packet old irp.slot packet)
Effect fixed old (FinishTaken irp token status information) asked reply new =
    (packet : PacketValue)
    × Completes irp (with_status (after_take (packet_of old irp)) status information) asked packet
    × (reply ≡ Done) × (new ≡ with_packet old irp.slot packet)
Effect fixed old (SetCancelRoutine party irp cancel) asked reply new =
    Unasked asked reply new (Previous (packet_of old irp).cancel_routine)
    (with_packet old irp.slot (record (packet_of old irp) { cancel_routine = cancel }))
Effect fixed old (Cancel irp) asked reply new =
    (packet : PacketValue)
    × Cancels fixed.tables irp (packet_of old irp) (packet_of old irp).cancel_routine asked reply packet
    × (new ≡ with_packet old irp.slot packet)
Effect fixed old (Look irp) asked reply new = Unasked asked reply new (SeenAs (seen_of (packet_of old irp))) old

-- one step: the first check that fails refuses the call, which changes nothing; else the call has its effect
-- (that `drained` is false where the call deletes no device is said of the entry, in `IsEntryAt`)
abbrev pub Step : Fixed → StateValue → Bool → Call → List Asked → Reply → StateValue → Type 0
Step fixed old drained call asked reply new =
    MatchOption (first_refusal fixed old drained call) (Effect fixed old call asked reply new)
    (λ refusal. Unasked asked reply new (Refused refusal) old)
