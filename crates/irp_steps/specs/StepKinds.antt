-- What is read of a step's act: the packet that it names, its kind, and its call.
use Rattle.std.specs.Prelude.{Option, Some, None}
use Rattle.irp_types.specs.Calls.{Call, call_with, packet_named}
use Rattle.irp_types.specs.declared.names.IrpRef.{IrpRef}
use Rattle.irp_types.specs.declared.call.Call.TheVariants as call
use Rattle.irp_types.specs.declared.seat_act.SlotAct.TheVariants as on_slot
use Rattle.irp_script_reader.specs.declared.act.Named.{Named}
use Rattle.irp_script_reader.specs.declared.act.StepAct.{StepAct}
use Rattle.irp_script_reader.specs.declared.act.StepAct.TheVariants.{
  Call as Made,
  Allocate,
  OnLock,
  Hand,
  Publish,
  Withdraw,
  Request,
}
use Rattle.irp_steps.specs.declared.step_kind.StepKind.{StepKind}
use Rattle.irp_steps.specs.declared.step_kind.StepKind.TheVariants as kind

-- the packet that an act names
abbrev pub named_by : StepAct → Option Named
named_by (Made made) = packet_named made
named_by (Publish slot irp) = Some irp
named_by other = None

-- what kind a step is of
abbrev pub kind_of : StepAct → StepKind
kind_of (OnLock on) = kind.OnLock on
kind_of (Hand hand) = kind.Hands hand
kind_of (Publish slot irp) = kind.OnSlot (on_slot.Publish slot)
kind_of (Withdraw slot) = kind.OnSlot (on_slot.Withdraw slot)
kind_of (Request slot) = kind.OnSlot (on_slot.Request slot)
kind_of (Made (call.FinishTaken irp slot status information)) = kind.Finishes slot status information
kind_of other = kind.Calls

-- the call of the manager that needs no token, of this packet where the act names one
abbrev pub call_of : StepAct → IrpRef → Option Call
call_of (Made (call.FinishTaken named slot status information)) irp = None
call_of (Made made) irp = Some (call_with made irp 0)
call_of (Allocate size label) irp = Some (call.Allocate size)
call_of other irp = None
