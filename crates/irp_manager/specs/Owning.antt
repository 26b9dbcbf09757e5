-- The calls that only the owner of a packet may make: why one is refused, and what it does to the packet.
use Rattle.std.specs.Prelude.{Option, None, List}
use Rattle.std.specs.Option.{option_and_then, option_map}
use Rattle.irp_types.specs.Calls.{Call, packet_named, party_named}
use Rattle.irp_types.specs.Packet.{PacketValue, set_next_refusal, copy_to_next_refusal, mark_pending_refusal}
use Rattle.irp_types.specs.Refusals.{leave_refusal, routine_refusal, cancel_refusal, send_refusal, complete_refusal}
use Rattle.irp_types.specs.Stacks.{DevicesValue}
use Rattle.irp_types.specs.State.{Tables}
use Rattle.irp_types.specs.declared.asked.Asked.{Asked}
use Rattle.irp_types.specs.declared.call.Party.{Party}
use Rattle.irp_types.specs.declared.call.Call.TheVariants.{SetNext, CopyToNext, Skip, SetRoutine, MarkPending, CallDriver, Complete, SetCancelRoutine}
use Rattle.irp_types.specs.declared.names.IrpRef.{IrpRef}
use Rattle.irp_types.specs.declared.refusal.Refusal.{Refusal}
use Rattle.irp_types.specs.declared.reply.Reply.{Reply}
use Rattle.irp_types.specs.declared.routine.Known.{Known}
use Rattle.irp_manager.specs.Calls.{Fills, Copies, Leaves, Sets, Marks, Sends, Finishes, SetsCancel}

-- the party that makes a call as the owner of a packet, and the packet that the call names
abbrev pub owner_named : Call → Option (Party × IrpRef)
owner_named call =
    option_and_then (λ (party : Party). option_map (λ (irp : IrpRef). (party, irp)) (packet_named call)) (party_named call)

-- why the owner's call is refused by its own checks, where there are so many routines, or none
abbrev pub own_refusal : Known → DevicesValue → PacketValue → Call → Option Refusal
own_refusal counts devices packet (SetNext party irp major word) = set_next_refusal packet major
own_refusal counts devices packet (CopyToNext party irp) = copy_to_next_refusal packet
own_refusal counts devices packet (Skip party irp) = leave_refusal packet
own_refusal counts devices packet (SetRoutine party irp setting) = routine_refusal counts packet setting
own_refusal counts devices packet (MarkPending party irp) = mark_pending_refusal packet
own_refusal counts devices packet (CallDriver party irp target) = send_refusal devices party packet target.0
own_refusal counts devices packet (Complete party irp status information) = complete_refusal packet status
own_refusal counts devices packet (SetCancelRoutine party irp cancel) = cancel_refusal counts packet cancel
own_refusal counts devices packet _ = None

-- what the owner's call makes of the packet, where nothing refuses it
abbrev pub OwnerDoes : Tables → IrpRef → DevicesValue → Call → List Asked → Reply → PacketValue → PacketValue → Type 0
OwnerDoes tables irp devices (SetNext party own major word) asked reply old new = Fills major word asked reply old new
OwnerDoes tables irp devices (CopyToNext party own) asked reply old new = Copies asked reply old new
OwnerDoes tables irp devices (Skip party own) asked reply old new = Leaves asked reply old new
OwnerDoes tables irp devices (SetRoutine party own setting) asked reply old new = Sets setting asked reply old new
OwnerDoes tables irp devices (MarkPending party own) asked reply old new = Marks asked reply old new
OwnerDoes tables irp devices (CallDriver party own target) asked reply old new =
    Sends tables irp devices target.0 asked reply old new
OwnerDoes tables irp devices (Complete party own status information) asked reply old new =
    Finishes irp status information asked reply old new
OwnerDoes tables irp devices (SetCancelRoutine party own cancel) asked reply old new =
    SetsCancel cancel asked reply old new
OwnerDoes tables irp devices _ asked reply old new = ⊥
