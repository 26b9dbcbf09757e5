-- What stands beside an act's word: the routine of Windows that it stands for, its name in docs/RULES.md, and for a call
-- its checks and what it is answered; and which scripts may have it, and where.
use Rattle.std.specs.Prelude.{ℕ, codes, List, [], ◌∷◌}
use Rattle.irp_forms.specs.declared.step_names.ActKind.{ActKind}
use Rattle.irp_forms.specs.declared.step_names.ActKind.TheVariants as act
use Rattle.irp_forms.specs.declared.step_names.StepPlace.{StepPlace}
use Rattle.irp_forms.specs.declared.step_names.StepPlace.TheVariants as place

-- every act, in the order of the enum
unfoldable pub every_act : List ActKind
every_act =
    act.CreateDevice
    ∷ act.Attach
    ∷ act.Detach
    ∷ act.Delete
    ∷ act.Allocate
    ∷ act.Free
    ∷ act.Cancel
    ∷ act.Look
    ∷ act.Reuse
    ∷ act.SetNext
    ∷ act.CopyToNext
    ∷ act.Skip
    ∷ act.MarkPending
    ∷ act.SetRoutine
    ∷ act.CallDriver
    ∷ act.Complete
    ∷ act.SetCancelRoutine
    ∷ act.Acquire
    ∷ act.Release
    ∷ act.BeginRemove
    ∷ act.Drained
    ∷ act.Hand
    ∷ act.Publish
    ∷ act.Withdraw
    ∷ act.Request
    ∷ act.FinishTaken
    ∷ []

-- the routine of Windows that it stands for; where it stands for none its own word, of Look `look at`
unfoldable pub windows_name : ActKind → List ℕ
windows_name act.CreateDevice = codes "IoCreateDevice"
windows_name act.Attach = codes "IoAttachDeviceToDeviceStack"
windows_name act.Detach = codes "IoDetachDevice"
windows_name act.Delete = codes "IoDeleteDevice"
windows_name act.Allocate = codes "IoAllocateIrp"
windows_name act.Free = codes "IoFreeIrp"
windows_name act.Cancel = codes "IoCancelIrp"
windows_name act.Look = codes "look at"
windows_name act.Reuse = codes "IoReuseIrp"
windows_name act.SetNext = codes "IoGetNextIrpStackLocation"
windows_name act.CopyToNext = codes "IoCopyCurrentIrpStackLocationToNext"
windows_name act.Skip = codes "IoSkipCurrentIrpStackLocation"
windows_name act.MarkPending = codes "IoMarkIrpPending"
windows_name act.SetRoutine = codes "IoSetCompletionRoutine"
windows_name act.CallDriver = codes "IoCallDriver"
windows_name act.Complete = codes "IoCompleteRequest"
windows_name act.SetCancelRoutine = codes "IoSetCancelRoutine"
windows_name act.Acquire = codes "IoAcquireRemoveLock"
windows_name act.Release = codes "IoReleaseRemoveLock"
windows_name act.BeginRemove = codes "IoReleaseRemoveLockAndWait"
windows_name act.Drained = codes "drained"
windows_name act.Hand = codes "hand"
windows_name act.Publish = codes "publish"
windows_name act.Withdraw = codes "withdraw"
windows_name act.Request = codes "request"
windows_name act.FinishTaken = codes "IoCompleteRequest"

-- its name in docs/RULES.md
unfoldable pub rules_name : ActKind → List ℕ
rules_name act.CreateDevice = codes "CreateDevice"
rules_name act.Attach = codes "Attach"
rules_name act.Detach = codes "Detach"
rules_name act.Delete = codes "Delete"
rules_name act.Allocate = codes "Allocate"
rules_name act.Free = codes "Free"
rules_name act.Cancel = codes "Cancel"
rules_name act.Look = codes "Look"
rules_name act.Reuse = codes "Reuse"
rules_name act.SetNext = codes "SetNext"
rules_name act.CopyToNext = codes "CopyToNext"
rules_name act.Skip = codes "Skip"
rules_name act.MarkPending = codes "MarkPending"
rules_name act.SetRoutine = codes "SetRoutine"
rules_name act.CallDriver = codes "CallDriver"
rules_name act.Complete = codes "Complete"
rules_name act.SetCancelRoutine = codes "SetCancelRoutine"
rules_name act.Acquire = codes "Acquire"
rules_name act.Release = codes "Release"
rules_name act.BeginRemove = codes "BeginRemove"
rules_name act.Drained = codes "Drained"
rules_name act.Hand = codes "Hand"
rules_name act.Publish = codes "Publish"
rules_name act.Withdraw = codes "Withdraw"
rules_name act.Request = codes "Request"
rules_name act.FinishTaken = codes "FinishTaken"

-- a call's checks in docs/RULES.md, in order; those of a party that it names come before. Of an act that is no call
-- nothing
unfoldable pub checks_of : ActKind → List ℕ
checks_of act.CreateDevice = codes "NoDriver, NoLock, Full"
checks_of act.Attach = codes "NoDevice, DeviceGone, NoDevice, DeviceGone, SameStack, StillAttached, TooDeep"
checks_of act.Detach = codes "NoDevice, DeviceGone, NothingAttached"
checks_of act.Delete = codes "NoDevice, DeviceGone, StillAttached, InFlight, NotDrained"
checks_of act.Allocate = codes "BadSize, Full"
checks_of act.Free = codes "NoIrp, Stale, InFlight"
checks_of act.Cancel = codes "NoIrp, Stale, Ended"
checks_of act.Look = codes "NoIrp, Stale"
checks_of act.Reuse = codes "NoIrp, Stale, InFlight, Full"
checks_of act.SetNext = codes "AfterSkip, TooShort, BadMajor"
checks_of act.CopyToNext = codes "NoLocation, AfterSkip, TooShort"
checks_of act.Skip = codes "NoLocation, AfterSkip, CancelRoutineSet"
checks_of act.MarkPending = codes "NoLocation, AfterSkip"
checks_of act.SetRoutine = codes "AfterSkip, NotPrepared, NoRoutine"
checks_of act.CallDriver = codes "NoDevice, DeviceGone, WrongTarget, NotPrepared, TooShort, CancelRoutineSet"
checks_of act.Complete = codes "NoLocation, AfterSkip, BadStatus, CancelRoutineSet"
checks_of act.SetCancelRoutine = codes "NoLocation, AfterSkip, NoRoutine, AlreadyCancelled"
checks_of act.FinishTaken = codes "NoIrp, Stale, Ended, NotSlotHeld, BadStatus"
checks_of _ = []

-- what a call is answered, in the words of docs/RULES.md. Of an act that is no call nothing
unfoldable pub answer_of : ActKind → List ℕ
answer_of act.CreateDevice = codes "CreateDevice answers the next number"
answer_of act.Attach = codes "Attach answers the former top of the stack"
answer_of act.Detach = codes "Detach answers the device that stood just above"
answer_of act.Delete = codes "the call answers done"
answer_of act.Allocate = codes "Allocate answers a slot that is not live, and the next use number"
answer_of act.Free = codes "the call answers done"
answer_of act.Cancel = codes "Cancel answers whether there was a cancel routine"
answer_of act.Look = codes "Look answers what the packet holds"
answer_of act.Reuse = codes "Reuse answers the same slot, and the next use number"
answer_of act.SetNext = codes "the call answers done"
answer_of act.CopyToNext = codes "the call answers done"
answer_of act.Skip = codes "the call answers done"
answer_of act.MarkPending = codes "the call answers done"
answer_of act.SetRoutine = codes "the call answers done"
answer_of act.CallDriver =
    codes "PENDING where a dispatch held or pended, else the status of the finish that ended the descent"
answer_of act.Complete = codes "the call answers done"
answer_of act.SetCancelRoutine = codes "SetCancelRoutine answers the routine that was set, or none"
answer_of act.FinishTaken = codes "the call answers done"
answer_of _ = []

-- which scripts may have it, and where
unfoldable pub place_of : ActKind → StepPlace
place_of act.Acquire = place.Steps
place_of act.Release = place.Steps
place_of act.BeginRemove = place.Steps
place_of act.Drained = place.Steps
place_of act.Hand = place.FormTwo
place_of act.Publish = place.FormTwo
place_of act.Withdraw = place.FormTwo
place_of act.Request = place.FormTwo
place_of act.FinishTaken = place.FormTwo
place_of _ = place.Anywhere
