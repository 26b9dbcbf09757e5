-- Calls in words.
use Rattle.std.specs.Prelude.{ℕ, ◌==◌, Bool, true, false, List, [], ◌++◌, codes, if◌then◌else◌}
use Rattle.std.specs.Fmt.{decimal}
use Rattle.irp_types.specs.Calls.{Call}
use Rattle.irp_types.specs.declared.call.Call.TheVariants as call
use Rattle.irp_types.specs.declared.routine.Setting.{Setting}
use Rattle.irp_names.specs.Majors.{major_text}
use Rattle.irp_names.specs.Small.{hex_text, packet_text, routine_text, cancel_text}
use Rattle.irp_names.specs.Statuses.{status_text, result_text}

-- the routine of Windows that a call stands for
abbrev pub call_name : Call → List ℕ
call_name (call.CreateDevice driver lock) = codes "IoCreateDevice"
call_name (call.Attach device to) = codes "IoAttachDeviceToDeviceStack"
call_name (call.Detach lower) = codes "IoDetachDevice"
call_name (call.Delete device) = codes "IoDeleteDevice"
call_name (call.Allocate size) = codes "IoAllocateIrp"
call_name (call.Free irp) = codes "IoFreeIrp"
call_name (call.Reuse irp status) = codes "IoReuseIrp"
call_name (call.SetNext party irp major word) = codes "IoGetNextIrpStackLocation"
call_name (call.CopyToNext party irp) = codes "IoCopyCurrentIrpStackLocationToNext"
call_name (call.Skip party irp) = codes "IoSkipCurrentIrpStackLocation"
call_name (call.SetRoutine party irp setting) = codes "IoSetCompletionRoutine"
call_name (call.MarkPending party irp) = codes "IoMarkIrpPending"
call_name (call.CallDriver party irp target) = codes "IoCallDriver"
call_name (call.Complete party irp status information) = codes "IoCompleteRequest"
call_name (call.FinishTaken irp token status information) = codes "IoCompleteRequest"
call_name (call.SetCancelRoutine party irp cancel) = codes "IoSetCancelRoutine"
call_name (call.Cancel irp) = codes "IoCancelIrp"
call_name (call.Look irp) = codes "look at"

-- on what a completion routine is asked
abbrev pub flags_words : Bool → Bool → Bool → List ℕ
flags_words true true true = codes "on success, on error, on cancel"
flags_words true true false = codes "on success, on error"
flags_words true false true = codes "on success, on cancel"
flags_words true false false = codes "on success"
flags_words false true true = codes "on error, on cancel"
flags_words false true false = codes "on error"
flags_words false false true = codes "on cancel"
flags_words false false false = codes "never"

-- a completion routine that is set
abbrev pub setting_text : Setting → List ℕ
setting_text setting =
    routine_text setting.routine ++ (codes ", context " ++ (hex_text setting.context ++ (codes ", "
    ++ flags_words setting.on_success setting.on_error setting.on_cancel)))

-- whether a lock is known drained
abbrev pub knowledge : Bool → List ℕ
knowledge true = codes "known drained"
knowledge false = codes "not known drained"

-- the size of a packet
abbrev pub locations_text : ℕ → List ℕ
locations_text size = if size == 1 then codes "(1 location)" else codes "(" ++ (decimal size ++ codes " locations)")

-- what stands behind the name of a call; of those that say more of their packet
abbrev pub further_text : Call → List ℕ
further_text (call.Reuse irp status) =
    codes "(" ++ (packet_text irp ++ (codes ", " ++ (status_text status ++ codes ")")))
further_text (call.SetNext party irp major word) =
    codes "(" ++ (packet_text irp ++ (codes "): " ++ (major_text major ++ (codes ", word " ++ hex_text word))))
further_text (call.SetRoutine party irp setting) =
    codes "(" ++ (packet_text irp ++ (codes ", " ++ (setting_text setting ++ codes ")")))
further_text (call.Complete party irp status information) =
    codes "(" ++ (packet_text irp ++ (codes ") with " ++ result_text status information))
further_text (call.FinishTaken irp token status information) =
    codes "(" ++ (packet_text irp ++ (codes ") by the token of use " ++ (decimal token
    ++ (codes " with " ++ result_text status information))))
further_text (call.SetCancelRoutine party irp cancel) =
    codes "(" ++ (packet_text irp ++ (codes ", " ++ (cancel_text cancel ++ codes ")")))
further_text _ = []

abbrev pub arguments_text : Call → Bool → List ℕ
arguments_text (call.CreateDevice driver lock) drained =
    codes "(driver " ++ (decimal driver.0 ++ (codes ", remove lock " ++ (decimal lock.0 ++ codes ")")))
arguments_text (call.Attach device to) drained =
    codes "(D" ++ (decimal device.0 ++ (codes ", the stack of D" ++ (decimal to.0 ++ codes ")")))
arguments_text (call.Detach lower) drained = codes "(what stands on D" ++ (decimal lower.0 ++ codes ")")
arguments_text (call.Delete device) drained =
    codes "(D" ++ (decimal device.0 ++ (codes "), its remove lock " ++ knowledge drained))
arguments_text (call.Allocate size) drained = locations_text size
arguments_text (call.Free irp) drained = codes "(" ++ (packet_text irp ++ codes ")")
arguments_text (call.CopyToNext party irp) drained = codes "(" ++ (packet_text irp ++ codes ")")
arguments_text (call.Skip party irp) drained = codes "(" ++ (packet_text irp ++ codes ")")
arguments_text (call.MarkPending party irp) drained = codes "(" ++ (packet_text irp ++ codes ")")
arguments_text (call.CallDriver party irp target) drained =
    codes "(D" ++ (decimal target.0 ++ (codes ", " ++ (packet_text irp ++ codes ")")))
arguments_text (call.Cancel irp) drained = codes "(" ++ (packet_text irp ++ codes ")")
arguments_text (call.Look irp) drained = codes " " ++ packet_text irp
arguments_text call drained = further_text call

-- a call with its arguments
abbrev pub call_text : Call → Bool → List ℕ
call_text call drained = call_name call ++ arguments_text call drained
