-- The name of a call is that of the step that makes it.
use Rattle.std.proofs.Common.{◌≡◌, refl}
use Rattle.irp_types.specs.Calls.{Call}
use Rattle.irp_types.specs.declared.call.Call.TheVariants as call
use Rattle.irp_forms.specs.Acts.{windows_name}
use Rattle.irp_forms.specs.Steps.{kind_of}
use Rattle.irp_names.specs.Calls.{call_name}

pub call_named : (one : Call) → windows_name (kind_of one) ≡ call_name one
unfolding windows_name
call_named (call.CreateDevice driver lock) = refl
call_named (call.Attach device to) = refl
call_named (call.Detach lower) = refl
call_named (call.Delete device) = refl
call_named (call.Allocate size) = refl
call_named (call.Free irp) = refl
call_named (call.Cancel irp) = refl
call_named (call.Look irp) = refl
call_named (call.Reuse irp status) = refl
call_named (call.SetNext party irp major word) = refl
call_named (call.CopyToNext party irp) = refl
call_named (call.Skip party irp) = refl
call_named (call.MarkPending party irp) = refl
call_named (call.SetRoutine party irp setting) = refl
call_named (call.CallDriver party irp target) = refl
call_named (call.Complete party irp status information) = refl
call_named (call.SetCancelRoutine party irp cancel) = refl
call_named (call.FinishTaken irp token status information) = refl
