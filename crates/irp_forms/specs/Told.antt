-- What a JSON value tells as an act: what stands under the keys of the act, and the call, the act on a remove lock or
-- the hand that it is. None where the value has another form.
use Rattle.std.specs.Prelude.{ℕ, List, [], ◌∷◌, ◌+◌, ◌==◌, ◌&&◌, length, Option, Some, None, option_map, if◌then◌else◌}
use Rattle.serde_json.specs.Data.{Data}
use Rattle.serde_json.specs.Find.{get}
use Rattle.irp_forms.specs.Parts.{◌>>=◌, count_members, each_key, or_null_at, u8_at, u32_at, u64_at}
use Rattle.irp_forms.specs.Steps.{ActKey}
use Rattle.irp_forms.specs.Values.{cancel_at, device_at, driver_at, lock_at, party_at, setting_at, status_at}
use Rattle.irp_forms.specs.declared.key_parts.Part.{Part}
use Rattle.irp_forms.specs.declared.key_parts.Part.TheVariants as part
use Rattle.irp_forms.specs.declared.step_names.ActKind.{ActKind}
use Rattle.irp_forms.specs.declared.step_names.ActKind.TheVariants as act
use Rattle.irp_forms.specs.declared.told.Told.{Told}
use Rattle.irp_forms.specs.declared.told.Told.TheVariants as told
use Rattle.irp_types.specs.declared.call.Call.{Call as CallOf}
use Rattle.irp_types.specs.declared.call.Call.TheVariants as call
use Rattle.irp_types.specs.declared.{seat_act.Hand.Hand, seat_act.LockAct.LockAct}
use Rattle.irp_types.specs.declared.seat_act.LockAct.TheVariants as on_lock

-- what stands under a key that holds this; `packet` is what a packet reads as
unfoldable pub part_at : {P : Type 0} → Part → Option P → Data → Option (Told P)
part_at part.Driver packet form = option_map told.Driver (driver_at form)
part_at part.Device packet form = option_map told.Device (device_at form)
part_at part.Lock packet form = option_map told.Lock (lock_at form)
part_at part.Status packet form = option_map told.Status (status_at form)
part_at part.Party packet form = option_map told.Party (party_at form)
part_at part.Packet packet form = option_map told.Packet packet
part_at part.Setting packet form = option_map told.Setting (setting_at form)
part_at part.CancelOrNull packet form = option_map told.Cancel (or_null_at cancel_at form)
part_at part.Size packet form = option_map told.Byte (u8_at form)
part_at part.Major packet form = option_map told.Byte (u8_at form)
part_at part.Tag packet form = option_map told.Number (u32_at form)
part_at part.Seat packet form = option_map told.Number (u32_at form)
part_at part.Slot packet form = option_map told.Number (u32_at form)
part_at part.Word packet form = option_map told.Long (u64_at form)
part_at part.Information packet form = option_map told.Long (u64_at form)
part_at part.Token packet form = option_map told.Long (u64_at form)
part_at part.Label packet form = Some told.Other
part_at other packet form = None

-- what stands under a key
abbrev pub part_under : {P : Type 0} → ActKey → Option P → Data → Option (Told P)
part_under key packet form = get key.0 form >>= part_at key.1 packet

-- what stands under each of these keys, in their order
unfoldable pub each_told : {P : Type 0} → List ActKey → Option P → Data → Option (List (Told P))
each_told [] packet form = Some []
each_told (key ∷ keys) packet form = do
  first ← part_under key packet form
  others ← each_told keys packet form
  Some (first ∷ others)

-- the same of an object with exactly these keys and those beside them, which differ: as many members, and each key
unfoldable pub told_at : {P : Type 0} → List ActKey → List (List ℕ) → Option P → Data → Option (List (Told P))
told_at keys beside packet form =
    if (count_members form == (length keys + length beside)) && each_key beside form then each_told keys packet form
    else None

-- the call that an act is, by what stands under its keys; none for a finish of a taken packet, which entries and steps
-- tell in different ways
unfoldable pub call_of : {P T : Type 0} → ActKind → List (Told P) → Option (CallOf P T)
call_of act.CreateDevice (told.Driver driver ∷ told.Lock lock ∷ []) = Some (call.CreateDevice driver lock)
call_of act.Attach (told.Device device ∷ told.Device to ∷ []) = Some (call.Attach device to)
call_of act.Detach (told.Device lower ∷ []) = Some (call.Detach lower)
call_of act.Delete (told.Device device ∷ []) = Some (call.Delete device)
call_of act.Allocate (told.Byte size ∷ []) = Some (call.Allocate size)
call_of act.Free (told.Packet irp ∷ []) = Some (call.Free irp)
call_of act.Cancel (told.Packet irp ∷ []) = Some (call.Cancel irp)
call_of act.Look (told.Packet irp ∷ []) = Some (call.Look irp)
call_of act.Reuse (told.Packet irp ∷ told.Status status ∷ []) = Some (call.Reuse irp status)
call_of act.SetNext (told.Party party ∷ told.Packet irp ∷ told.Byte major ∷ told.Long word ∷ []) =
    Some (call.SetNext party irp major word)
call_of act.CopyToNext (told.Party party ∷ told.Packet irp ∷ []) = Some (call.CopyToNext party irp)
call_of act.Skip (told.Party party ∷ told.Packet irp ∷ []) = Some (call.Skip party irp)
call_of act.MarkPending (told.Party party ∷ told.Packet irp ∷ []) = Some (call.MarkPending party irp)
call_of act.SetRoutine (told.Party party ∷ told.Packet irp ∷ told.Setting setting ∷ []) =
    Some (call.SetRoutine party irp setting)
call_of act.CallDriver (told.Party party ∷ told.Packet irp ∷ told.Device target ∷ []) =
    Some (call.CallDriver party irp target)
call_of act.Complete (told.Party party ∷ told.Packet irp ∷ told.Status status ∷ told.Long information ∷ []) =
    Some (call.Complete party irp status information)
call_of act.SetCancelRoutine (told.Party party ∷ told.Packet irp ∷ told.Cancel cancel ∷ []) =
    Some (call.SetCancelRoutine party irp cancel)
call_of other told = None

-- the act on a remove lock that an act is, by what stands under its keys
unfoldable pub lock_act_of : {P : Type 0} → ActKind → List (Told P) → Option LockAct
lock_act_of act.Acquire (told.Lock lock ∷ told.Number tag ∷ []) = Some (on_lock.Acquire lock tag)
lock_act_of act.Release (told.Lock lock ∷ told.Number tag ∷ []) = Some (on_lock.Release lock tag)
lock_act_of act.BeginRemove (told.Lock lock ∷ told.Number tag ∷ []) = Some (on_lock.BeginRemove lock tag)
lock_act_of act.Drained (told.Lock lock ∷ []) = Some (on_lock.Drained lock)
lock_act_of other told = None

-- the hand that is told so
unfoldable pub hand_of : {P : Type 0} → List (Told P) → Option Hand
hand_of (told.Lock lock ∷ told.Number tag ∷ told.Number to ∷ []) = Some (record { lock = lock; tag = tag; to = to })
hand_of other = None
