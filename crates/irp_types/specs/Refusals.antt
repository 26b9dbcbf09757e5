-- Which check of a call fails first.
use Rattle.std.specs.Prelude.{ℕ, ◌-◌, ◌==◌, Bool, true, false, not, ◌||◌, ◌&&◌, nat_lt, nat_le, is_some, List, [], ◌∷◌}
use Rattle.std.specs.Prelude.{◌++◌, length, Option}
use Rattle.std.specs.List.{list_any}
use Rattle.std.specs.Option.{option_map_or}
use Rattle.std.specs.FinMap as fin
use Rattle.irp_types.specs.Limits.{most_under, most_live, use_limit}
use Rattle.irp_types.specs.Status.{is_completable}
use Rattle.irp_types.specs.Checks.{Check, first_failing, or_else}
use Rattle.irp_types.specs.Rules.{is_known}
use Rattle.irp_types.specs.Packet.{PacketValue, size_of, location_at, location_check, skip_check, preparation_check}
use Rattle.irp_types.specs.Packet.{set_next_refusal, copy_to_next_refusal, skip_refusal, set_routine_refusal}
use Rattle.irp_types.specs.Packet.{mark_pending_refusal}
use Rattle.irp_types.specs.Unwinding.{from_to}
use Rattle.irp_types.specs.Stacks.{DevicesValue, stack_size_of, lower_of, device_checks, create_checks, attach_checks}
use Rattle.irp_types.specs.Stacks.{detach_checks, delete_checks}
use Rattle.irp_types.specs.State.{StateValue, LivePacket, Fixed, live_at, packet_at, packet_of}
use Rattle.irp_types.specs.declared.status.Status.{Status}
use Rattle.irp_types.specs.declared.names.IrpRef.{IrpRef}
use Rattle.irp_types.specs.declared.names.CancelId.{CancelId}
use Rattle.irp_types.specs.declared.names.DeviceId.{DeviceId}
use Rattle.irp_types.specs.declared.location.Owner.{Owner}
use Rattle.irp_types.specs.declared.location.Owner.TheVariants.{Originator, Device, Ended}
use Rattle.irp_types.specs.declared.routine.Known.{Known}
use Rattle.irp_types.specs.declared.routine.Setting.{Setting}
use Rattle.irp_types.specs.declared.call.Party.{Party}
use Rattle.irp_types.specs.declared.call.Party.TheVariants.{Originator as ByOriginator, Device as ByDevice}
use Rattle.irp_types.specs.Calls.{Call}
use Rattle.irp_types.specs.declared.call.Call.TheVariants.{CreateDevice, Attach, Detach, Delete, Allocate, Free, Reuse}
use Rattle.irp_types.specs.declared.call.Call.TheVariants.{SetNext, CopyToNext, Skip, SetRoutine, MarkPending}
use Rattle.irp_types.specs.declared.call.Call.TheVariants.{CallDriver, Complete, FinishTaken, SetCancelRoutine, Cancel}
use Rattle.irp_types.specs.declared.call.Call.TheVariants.{Look}
use Rattle.irp_types.specs.declared.refusal.Refusal.{Refusal}
use Rattle.irp_types.specs.declared.refusal.Refusal.TheVariants.{NoIrp, Stale, NotOwner, TooShort, WrongTarget}
use Rattle.irp_types.specs.declared.refusal.Refusal.TheVariants.{NoRoutine, BadStatus, CancelRoutineSet}
use Rattle.irp_types.specs.declared.refusal.Refusal.TheVariants.{AlreadyCancelled, InFlight, Full, NotDrained, BadSize}
use Rattle.irp_types.specs.declared.refusal.Refusal.TheVariants.{NoDriver, Ended as HasEnded, NoLock, SlotHeld}
use Rattle.irp_types.specs.declared.refusal.Refusal.TheVariants.{NotSlotHeld}

-- the use was completed
abbrev pub has_ended : Owner → Bool
has_ended Originator = false
has_ended (Device device) = false
has_ended Ended = true

-- a device owns the packet
abbrev pub is_owned_by_device : Owner → Bool
is_owned_by_device Originator = false
is_owned_by_device (Device device) = true
is_owned_by_device Ended = false

-- whether the party is the owner
abbrev pub is_owner : Party → Owner → Bool
is_owner ByOriginator Originator = true
is_owner ByOriginator (Device device) = false
is_owner ByOriginator Ended = false
is_owner (ByDevice party) Originator = false
is_owner (ByDevice party) (Device device) = party.0 == device.0
is_owner (ByDevice party) Ended = false

-- the checks of a call that names a packet
abbrev pub packet_checks : StateValue → IrpRef → List Check
packet_checks state irp =
    (not (is_some (live_at state irp.slot)), NoIrp)
    ∷ (not ((packet_at state irp.slot).use_no == irp.use_no), Stale) ∷ []

-- why a reference names no packet in use, or none
abbrev pub packet_refusal : StateValue → IrpRef → Option Refusal
packet_refusal state irp = first_failing (packet_checks state irp)

-- the packet stands in a cancel slot
abbrev pub slot_check : PacketValue → Check
slot_check packet = (packet.slot_held, SlotHeld)

-- why a party can't call on a packet, or none
abbrev pub party_refusal : StateValue → Party → IrpRef → Option Refusal
party_refusal state party irp =
    let owner = (packet_of state irp).owner in
    first_failing
    (packet_checks state irp
    ++ (has_ended owner, HasEnded) ∷ (not (is_owner party owner), NotOwner) ∷ slot_check (packet_of state irp) ∷ [])

-- why the owner can't skip, or none
abbrev pub leave_refusal : PacketValue → Option Refusal
leave_refusal packet =
    or_else (skip_refusal packet) (first_failing ((is_some packet.cancel_routine, CancelRoutineSet) ∷ []))

-- why the owner can't set a completion routine, where there are so many of each rule, or none
abbrev pub routine_refusal : Known → PacketValue → Setting → Option Refusal
routine_refusal counts packet setting =
    or_else (set_routine_refusal packet) (first_failing ((not (is_known counts setting), NoRoutine) ∷ []))

-- a device sends elsewhere than to the device below it
abbrev pub is_wrong_target : DevicesValue → Party → ℕ → Bool
is_wrong_target devices ByOriginator target = false
is_wrong_target devices (ByDevice sender) target =
    option_map_or (λ lower. not (lower == target)) (lower_of devices sender.0) true

-- why a party that owns a packet can't send it to a device, or none
abbrev pub send_refusal : DevicesValue → Party → PacketValue → ℕ → Option Refusal
send_refusal devices party packet target = first_failing (
    device_checks devices target
    ++ (is_wrong_target devices party target, WrongTarget)
    ∷ preparation_check packet
    ∷ (nat_lt (packet.current - 1) (stack_size_of devices target), TooShort)
    ∷ (is_some packet.cancel_routine, CancelRoutineSet) ∷ [])

-- why the owner can't complete a packet with a status, or none
abbrev pub complete_refusal : PacketValue → Status → Option Refusal
complete_refusal packet status = first_failing (
    location_check packet ∷ skip_check packet
    ∷ (not (is_completable status), BadStatus)
    ∷ (is_some packet.cancel_routine, CancelRoutineSet) ∷ [])

-- the use was completed
abbrev pub ended_check : PacketValue → Check
ended_check packet = (has_ended packet.owner, HasEnded)

-- why a packet of this use can't be completed by this token with a status, or none
abbrev pub take_refusal : PacketValue → ℕ → ℕ → Status → Option Refusal
take_refusal packet use_no token status = first_failing (
    (not (token == use_no), Stale)
    ∷ ended_check packet
    ∷ (not packet.slot_held, NotSlotHeld)
    ∷ (not (is_completable status), BadStatus) ∷ [])

-- why the owner can't set a cancel routine, or take it out, where there are so many, or none
abbrev pub cancel_refusal : Known → PacketValue → Option CancelId → Option Refusal
cancel_refusal counts packet cancel = first_failing (
    location_check packet ∷ skip_check packet
    ∷ (option_map_or (λ (routine : CancelId). nat_le counts.cancel routine.0) cancel false, NoRoutine)
    ∷ (is_some cancel && packet.cancel, AlreadyCancelled) ∷ [])

-- a device owns the packet
abbrev pub flight_check : PacketValue → Check
flight_check packet = (is_owned_by_device packet.owner, InFlight)

-- a device stands in a location of a packet
abbrev pub stands_at : PacketValue → ℕ → ℕ → Bool
stands_at packet device number =
    option_map_or (λ (there : DeviceId). there.0 == device) (location_at packet number).device false

-- a device has a packet: it owns it, or stands in a location of it from the current one up
abbrev pub has_packet : ℕ → PacketValue → Bool
has_packet device packet =
    is_owner (ByDevice (record { 0 = device })) packet.owner
    || list_any (stands_at packet device) (from_to packet.current (size_of packet))

-- a device has a live packet
abbrev pub is_in_flight : StateValue → ℕ → Bool
is_in_flight state device = list_any (λ (live : LivePacket). has_packet device live.packet) (fin.values state.live)

-- no use number is left
abbrev pub use_check : StateValue → Check
use_check state = (nat_le use_limit state.next_use, Full)

-- why a call is refused, or none
abbrev pub first_refusal : Fixed → StateValue → Bool → Call → Option Refusal
first_refusal fixed state drained (CreateDevice driver lock) = first_failing (
    (nat_le (length fixed.tables.drivers) driver.0, NoDriver) ∷ (nat_le fixed.locks lock.0, NoLock)
    ∷ create_checks state.devices)
first_refusal fixed state drained (Attach device to) =
    first_failing (attach_checks fixed.limit state.devices device.0 to.0)
first_refusal fixed state drained (Detach lower) = first_failing (detach_checks state.devices lower.0)
first_refusal fixed state drained (Delete device) = first_failing (
    delete_checks state.devices device.0
    ++ (is_in_flight state device.0, InFlight)
    ∷ (not drained, NotDrained) ∷ [])
first_refusal fixed state drained (Allocate size) = first_failing (
    ((size == 0) || nat_lt (most_under fixed.limit) size, BadSize)
    ∷ (nat_le most_live (fin.len state.live) || nat_le use_limit state.next_use, Full) ∷ [])
first_refusal fixed state drained (Free irp) =
    or_else (packet_refusal state irp) (first_failing (flight_check (packet_of state irp) ∷ []))
first_refusal fixed state drained (Reuse irp status) =
    or_else (packet_refusal state irp) (first_failing (flight_check (packet_of state irp) ∷ use_check state ∷ []))
first_refusal fixed state drained (SetNext party irp major word) =
    or_else (party_refusal state party irp) (set_next_refusal (packet_of state irp) major)
first_refusal fixed state drained (CopyToNext party irp) =
    or_else (party_refusal state party irp) (copy_to_next_refusal (packet_of state irp))
first_refusal fixed state drained (Skip party irp) =
    or_else (party_refusal state party irp) (leave_refusal (packet_of state irp))
first_refusal fixed state drained (SetRoutine party irp setting) =
    or_else (party_refusal state party irp) (routine_refusal fixed.tables.counts (packet_of state irp) setting)
first_refusal fixed state drained (MarkPending party irp) =
    or_else (party_refusal state party irp) (mark_pending_refusal (packet_of state irp))
first_refusal fixed state drained (CallDriver party irp target) =
    or_else (party_refusal state party irp) (send_refusal state.devices party (packet_of state irp) target.0)
first_refusal fixed state drained (Complete party irp status information) =
    or_else (party_refusal state party irp) (complete_refusal (packet_of state irp) status)
first_refusal fixed state drained (FinishTaken irp token status information) =
    or_else (packet_refusal state irp) (take_refusal (packet_of state irp) irp.use_no token status)
first_refusal fixed state drained (SetCancelRoutine party irp cancel) =
    or_else (party_refusal state party irp) (cancel_refusal fixed.tables.counts (packet_of state irp) cancel)
first_refusal fixed state drained (Cancel irp) =
    or_else (packet_refusal state irp) (first_failing (ended_check (packet_of state irp) ∷ []))
first_refusal fixed state drained (Look irp) = packet_refusal state irp
