-- What of the manager's state a refusal comes from.
use Rattle.std.specs.Prelude.{ℕ, length, Option, Some, None}
use Rattle.std.specs.Option.{option_map, option_map_or, option_and_then}
use Rattle.std.specs.FinMap as fin
use Rattle.irp_types.specs.Calls.{Call, packet_named}
use Rattle.irp_types.specs.Histories.{lock_of}
use Rattle.irp_types.specs.Packet.{size_of}
use Rattle.irp_types.specs.Stacks.{DevicesValue, stack_of, stack_size_of, lower_of, upper_of}
use Rattle.irp_types.specs.State.{StateValue, LivePacket, live_at}
use Rattle.irp_types.specs.declared.names.DeviceId.{DeviceId}
use Rattle.irp_types.specs.declared.names.IrpRef.{IrpRef}
use Rattle.irp_types.specs.declared.call.Party.TheVariants as by
use Rattle.irp_types.specs.declared.call.Call.TheVariants as call
use Rattle.irp_types.specs.declared.refusal.Refusal.{Refusal}
use Rattle.irp_types.specs.declared.refusal.Refusal.TheVariants as refusal
use Rattle.irp_types.specs.declared.reply.Reply.{Reply}
use Rattle.irp_types.specs.declared.reply.Reply.TheVariants.{Refused}
use Rattle.irp_judge.specs.declared.cause.Cause.{Cause}
use Rattle.irp_judge.specs.declared.cause.Cause.TheVariants.{Nothing, Use, Owner, Location, Room, Lower, CancelRoutine, Devices, Neighbours, Stack, Lock, Packets}

-- the live packet that a call names
abbrev pub live_named : StateValue → Call → Option LivePacket
live_named state call = option_and_then (λ (irp : IrpRef). live_at state irp.slot) (packet_named call)

-- how many locations a call needs below the current one: to send, as many as there are devices from the target down
abbrev pub needed_by : DevicesValue → Call → ℕ
needed_by devices (call.CallDriver party irp target) = stack_size_of devices target.0
needed_by devices _ = 1

-- the device that a call would send from; that it would attach or delete; and that it would attach to
abbrev pub sending : Call → Option DeviceId
sending (call.CallDriver (by.Device device) irp target) = Some device
sending _ = None

abbrev pub moving : Call → Option DeviceId
moving (call.Attach device to) = Some device
moving (call.Delete device) = Some device
moving _ = None

abbrev pub growing : Call → Option DeviceId
growing (call.Attach device to) = Some to
growing _ = None

-- what is told of this, where it is there
abbrev pub told_of : {A : Type 0} → Option A → (A → Cause) → Cause
told_of found tells = option_map_or tells found Nothing

-- what of a packet a refusal comes from, where a call needs so many locations below its current one; and of the packet
-- that a call names
abbrev pub packet_cause : ℕ → LivePacket → Refusal → Cause
packet_cause needed live refusal.Stale = Use live.use_no
packet_cause needed live refusal.NotOwner = Owner live.packet.owner
packet_cause needed live refusal.SlotHeld = Owner live.packet.owner
packet_cause needed live refusal.NotSlotHeld = Owner live.packet.owner
packet_cause needed live refusal.InFlight = Owner live.packet.owner
packet_cause needed live refusal.NoLocation = Location live.packet.current (size_of live.packet)
packet_cause needed live refusal.NotPrepared = Location live.packet.current (size_of live.packet)
packet_cause needed live refusal.AfterSkip = Location live.packet.current (size_of live.packet)
packet_cause needed live refusal.TooShort = Room live.packet.current (size_of live.packet) needed
packet_cause needed live refusal.CancelRoutineSet = CancelRoutine live.packet.cancel_routine
packet_cause needed live _ = Nothing

abbrev pub live_cause : StateValue → Call → Refusal → Cause
live_cause state call refusal =
    told_of (live_named state call) (λ live. packet_cause (needed_by state.devices call) live refusal)

-- a limit that was reached: of devices for who creates one, else of packets or uses
abbrev pub full_cause : StateValue → Call → Cause
full_cause state (call.CreateDevice driver lock) = Devices (length state.devices.facts)
full_cause state _ = Packets (fin.len state.live) state.next_use

-- a device by its number, if there is one
abbrev pub device_of : Option ℕ → Option DeviceId
device_of found = option_map (λ (number : ℕ). record { 0 = number }) found

-- what of the state a refusal of a call comes from
abbrev pub cause_of : StateValue → Call → Refusal → Cause
cause_of state call refusal.NoDevice = Devices (length state.devices.facts)
cause_of state call refusal.Full = full_cause state call
cause_of state call refusal.WrongTarget =
    told_of (sending call) (λ device. Lower (device_of (lower_of state.devices device.0)))
cause_of state call refusal.StillAttached = told_of (moving call) (λ device.
    Neighbours (device_of (lower_of state.devices device.0)) (device_of (upper_of state.devices device.0)))
cause_of state call refusal.TooDeep =
    told_of (growing call) (λ to. Stack (length (stack_of state.devices to.0)))
cause_of state call refusal.NotDrained = told_of (lock_of state call) Lock
cause_of state call other = live_cause state call other

-- what of the state a reply comes from, where it is a refusal
abbrev pub cause_in : StateValue → Call → Reply → Option Cause
cause_in state call (Refused refusal) = Some (cause_of state call refusal)
cause_in state call _ = None
