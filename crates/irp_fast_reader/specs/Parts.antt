-- What a call and an act of a word line tell under their keys, each within its range.
use Rattle.std.specs.Prelude.{◌^◌, ◌<◌, List, [], ◌∷◌, IfSome, ⊤}
use Rattle.irp_forms.specs.declared.told.Told.{Told}
use Rattle.irp_forms.specs.declared.told.Told.TheVariants as told
use Rattle.irp_types.specs.Calls.{Call}
use Rattle.irp_types.specs.declared.call.Call.TheVariants as call
use Rattle.irp_types.specs.declared.call.Party.{Party}
use Rattle.irp_types.specs.declared.call.Party.TheVariants as party
use Rattle.irp_types.specs.declared.{names.CancelId.CancelId, names.DeviceId.DeviceId, names.IrpRef.IrpRef}
use Rattle.irp_types.specs.declared.{names.LockNo.LockNo, routine.Setting.Setting, status.Status.Status}
use Rattle.irp_types.specs.declared.seat_act.LockAct.TheVariants as on_lock
use Rattle.irp_types.specs.declared.seat_act.SlotAct.TheVariants as on_slot
use Rattle.irp_transcript.specs.declared.word_line.Act.{Act}
use Rattle.irp_transcript.specs.declared.word_line.Act.TheVariants as act

-- ---- ranges

abbrev pub DeviceFits : DeviceId → Type 0
DeviceFits device = device.0 < 2 ^ 32

abbrev pub CancelFits : CancelId → Type 0
CancelFits cancel = cancel.0 < 2 ^ 32

abbrev pub LockFits : LockNo → Type 0
LockFits lock = lock.0 < 2 ^ 32

abbrev pub StatusFits : Status → Type 0
StatusFits status = status.0 < 2 ^ 32

-- a packet whose slot's number has 32 bits, as its use's number has 64
abbrev pub IrpFits : IrpRef → Type 0
IrpFits irp = (irp.slot < 2 ^ 32) × (irp.use_no < 2 ^ 64)

abbrev pub PartyFits : Party → Type 0
PartyFits party.Originator = ⊤
PartyFits (party.Device device) = DeviceFits device

abbrev pub SettingFits : Setting → Type 0
SettingFits setting = (setting.routine.no < 2 ^ 32) × (setting.context < 2 ^ 64)

-- what stands under a key
abbrev pub ToldFits : Told IrpRef → Type 0
ToldFits (told.Driver driver) = driver.0 < 2 ^ 32
ToldFits (told.Device device) = DeviceFits device
ToldFits (told.Lock lock) = LockFits lock
ToldFits (told.Status status) = StatusFits status
ToldFits (told.Party party) = PartyFits party
ToldFits (told.Packet irp) = IrpFits irp
ToldFits (told.Setting setting) = SettingFits setting
ToldFits (told.Cancel cancel) = IfSome cancel CancelFits
ToldFits (told.Byte number) = number < 2 ^ 8
ToldFits (told.Number number) = number < 2 ^ 32
ToldFits (told.Long number) = number < 2 ^ 64
ToldFits told.Other = ⊤

abbrev pub EachFits : List (Told IrpRef) → Type 0
EachFits [] = ⊤
EachFits (part ∷ []) = ToldFits part
EachFits (part ∷ next ∷ others) = ToldFits part × EachFits (next ∷ others)

-- ---- what stands under the keys, in their order

-- those of a call, but for the lock of a delete's entry
abbrev pub parts_of : Call → List (Told IrpRef)
parts_of (call.CreateDevice driver lock) = told.Driver driver ∷ told.Lock lock ∷ []
parts_of (call.Attach device to) = told.Device device ∷ told.Device to ∷ []
parts_of (call.Detach lower) = told.Device lower ∷ []
parts_of (call.Delete device) = told.Device device ∷ []
parts_of (call.Allocate size) = told.Byte size ∷ []
parts_of (call.Free irp) = told.Packet irp ∷ []
parts_of (call.Reuse irp status) = told.Packet irp ∷ told.Status status ∷ []
parts_of (call.SetNext party irp major word) =
    told.Party party ∷ told.Packet irp ∷ told.Byte major ∷ told.Long word ∷ []
parts_of (call.CopyToNext party irp) = told.Party party ∷ told.Packet irp ∷ []
parts_of (call.Skip party irp) = told.Party party ∷ told.Packet irp ∷ []
parts_of (call.SetRoutine party irp setting) = told.Party party ∷ told.Packet irp ∷ told.Setting setting ∷ []
parts_of (call.MarkPending party irp) = told.Party party ∷ told.Packet irp ∷ []
parts_of (call.CallDriver party irp target) = told.Party party ∷ told.Packet irp ∷ told.Device target ∷ []
parts_of (call.Complete party irp status information) =
    told.Party party ∷ told.Packet irp ∷ told.Status status ∷ told.Long information ∷ []
parts_of (call.FinishTaken irp token status information) =
    told.Packet irp ∷ told.Long token ∷ told.Status status ∷ told.Long information ∷ []
parts_of (call.SetCancelRoutine party irp cancel) = told.Party party ∷ told.Packet irp ∷ told.Cancel cancel ∷ []
parts_of (call.Cancel irp) = told.Packet irp ∷ []
parts_of (call.Look irp) = told.Packet irp ∷ []

-- those of an act of a word line
abbrev pub act_parts : Act → List (Told IrpRef)
act_parts (act.OnLock (on_lock.Acquire lock tag)) = told.Lock lock ∷ told.Number tag ∷ []
act_parts (act.OnLock (on_lock.Release lock tag)) = told.Lock lock ∷ told.Number tag ∷ []
act_parts (act.OnLock (on_lock.BeginRemove lock tag)) = told.Lock lock ∷ told.Number tag ∷ []
act_parts (act.OnLock (on_lock.Drained lock)) = told.Lock lock ∷ []
act_parts (act.Hand hand) = told.Lock hand.lock ∷ told.Number hand.tag ∷ told.Number hand.to ∷ []
act_parts (act.OnSlot (on_slot.Publish slot)) = told.Number slot ∷ []
act_parts (act.OnSlot (on_slot.Withdraw slot)) = told.Number slot ∷ []
act_parts (act.OnSlot (on_slot.Request slot)) = told.Number slot ∷ []
act_parts (act.FinishTaken slot) = told.Number slot ∷ []
