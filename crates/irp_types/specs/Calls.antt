-- The calls of the manager, and what they name.
use Rattle.std.specs.Prelude.{ℕ, Bool, Option, Some, None, is_some}
use Rattle.irp_types.specs.declared.names.IrpRef.{IrpRef}
use Rattle.irp_types.specs.declared.call.Party.{Party}
use Rattle.irp_types.specs.declared.call.Call.{Call as CallOf}
use Rattle.irp_types.specs.declared.call.Call.TheVariants.{CreateDevice, Attach, Detach, Delete, Allocate, Free, Reuse}
use Rattle.irp_types.specs.declared.call.Call.TheVariants.{SetNext, CopyToNext, Skip, SetRoutine, MarkPending}
use Rattle.irp_types.specs.declared.call.Call.TheVariants.{CallDriver, Complete, FinishTaken, SetCancelRoutine, Cancel}
use Rattle.irp_types.specs.declared.call.Call.TheVariants.{Look}

-- a call as the manager makes it: it names its packet by a reference, and a token by the token's number
abbrev pub Call : Type 0
Call = CallOf IrpRef ℕ

-- the packet that a call names
abbrev pub packet_named : {P T : Type 0} → CallOf P T → Option P
packet_named (CreateDevice driver lock) = None
packet_named (Attach device to) = None
packet_named (Detach lower) = None
packet_named (Delete device) = None
packet_named (Allocate size) = None
packet_named (Free irp) = Some irp
packet_named (Reuse irp status) = Some irp
packet_named (SetNext party irp major word) = Some irp
packet_named (CopyToNext party irp) = Some irp
packet_named (Skip party irp) = Some irp
packet_named (SetRoutine party irp setting) = Some irp
packet_named (MarkPending party irp) = Some irp
packet_named (CallDriver party irp target) = Some irp
packet_named (Complete party irp status information) = Some irp
packet_named (FinishTaken irp token status information) = Some irp
packet_named (SetCancelRoutine party irp cancel) = Some irp
packet_named (Cancel irp) = Some irp
packet_named (Look irp) = Some irp

-- the party that a call names
abbrev pub party_named : {P T : Type 0} → CallOf P T → Option Party
party_named (CreateDevice driver lock) = None
party_named (Attach device to) = None
party_named (Detach lower) = None
party_named (Delete device) = None
party_named (Allocate size) = None
party_named (Free irp) = None
party_named (Reuse irp status) = None
party_named (SetNext party irp major word) = Some party
party_named (CopyToNext party irp) = Some party
party_named (Skip party irp) = Some party
party_named (SetRoutine party irp setting) = Some party
party_named (MarkPending party irp) = Some party
party_named (CallDriver party irp target) = Some party
party_named (Complete party irp status information) = Some party
party_named (FinishTaken irp token status information) = None
party_named (SetCancelRoutine party irp cancel) = Some party
party_named (Cancel irp) = None
party_named (Look irp) = None

-- a call that names a party
abbrev pub names_party : {P T : Type 0} → CallOf P T → Bool
names_party call = is_some (party_named call)

-- the packet that a call completes
abbrev pub packet_completed : {P T : Type 0} → CallOf P T → Option P
packet_completed (Complete party irp status information) = Some irp
packet_completed (FinishTaken irp token status information) = Some irp
packet_completed _ = None

-- the same call with that packet and that token in the places of its own
abbrev pub call_with : {P T Q U : Type 0} → CallOf P T → Q → U → CallOf Q U
call_with (CreateDevice driver lock) packet token = CreateDevice driver lock
call_with (Attach device to) packet token = Attach device to
call_with (Detach lower) packet token = Detach lower
call_with (Delete device) packet token = Delete device
call_with (Allocate size) packet token = Allocate size
call_with (Free irp) packet token = Free packet
call_with (Reuse irp status) packet token = Reuse packet status
call_with (SetNext party irp major word) packet token = SetNext party packet major word
call_with (CopyToNext party irp) packet token = CopyToNext party packet
call_with (Skip party irp) packet token = Skip party packet
call_with (SetRoutine party irp setting) packet token = SetRoutine party packet setting
call_with (MarkPending party irp) packet token = MarkPending party packet
call_with (CallDriver party irp target) packet token = CallDriver party packet target
call_with (Complete party irp status information) packet token = Complete party packet status information
call_with (FinishTaken irp own status information) packet token = FinishTaken packet token status information
call_with (SetCancelRoutine party irp cancel) packet token = SetCancelRoutine party packet cancel
call_with (Cancel irp) packet token = Cancel packet
call_with (Look irp) packet token = Look packet
