-- What a JSON value reads as: an entry's call. None where the value has another form.
use Rattle.std.specs.Prelude.{ℕ, List, [], ◌∷◌, Bool, codes, false, Option, Some, None}
use Rattle.serde_json.specs.Data.{Data}
use Rattle.serde_json.specs.Find.{get, as_bool, as_str}
use Rattle.irp_forms.specs.Fields.{field}
use Rattle.irp_forms.specs.Parts.{◌>>=◌, or_null_at}
use Rattle.irp_forms.specs.Steps.{ActKey, act_named, information_key, irp_key, keys_of, status_key}
use Rattle.irp_forms.specs.Told.{call_of, told_at}
use Rattle.irp_forms.specs.Values.{irp_at, lock_at}
use Rattle.irp_forms.specs.declared.key_parts.Part.TheVariants as part
use Rattle.irp_forms.specs.declared.step_names.ActKind.{ActKind}
use Rattle.irp_forms.specs.declared.step_names.ActKind.TheVariants as act
use Rattle.irp_forms.specs.declared.told.Told.{Told}
use Rattle.irp_forms.specs.declared.told.Told.TheVariants as told
use Rattle.irp_types.specs.Calls.{Call}
use Rattle.irp_types.specs.declared.call.Call.TheVariants as call
use Rattle.irp_types.specs.declared.{names.IrpRef.IrpRef, names.LockNo.LockNo}
use Rattle.irp_transcript_reader.specs.declared.entry_calls.EntryCall.{EntryCall}

-- the keys of an act in an entry, but for `do` and for what only a delete has: those of a step, but for two acts
abbrev pub entry_keys : ActKind → List ActKey
entry_keys act.Allocate = (codes "size", part.Size) ∷ []
entry_keys act.FinishTaken = irp_key ∷ (codes "token", part.Token) ∷ status_key ∷ information_key ∷ []
entry_keys other = keys_of other

-- the keys beside these
abbrev pub beside : ActKind → List (List ℕ)
beside act.Delete = codes "do" ∷ codes "drained" ∷ codes "lock" ∷ []
beside other = codes "do" ∷ []

-- the call that an act is, by what stands under its keys
abbrev pub entry_call_of : ActKind → List (Told IrpRef) → Option Call
entry_call_of act.FinishTaken (told.Packet irp ∷ told.Long token ∷ told.Status status ∷ told.Long information ∷ []) =
    Some (call.FinishTaken irp token status information)
entry_call_of other told = call_of other told

-- the entry's lock, or null, and whether that was known to be drained, which only a delete tells
abbrev pub lock_told : ActKind → Data → Option (Option LockNo × Bool)
lock_told act.Delete form = do
  lock ← field (codes "lock") (or_null_at lock_at) form
  drained ← field (codes "drained") as_bool form
  Some (lock, drained)
lock_told other form = Some (None, false)

-- an entry's call, by the name under `do`, with the entry's lock and whether that was known to be drained
unfoldable pub entry_call_at : Data → Option EntryCall
entry_call_at form = do
  act ← get (codes "do") form >>= as_str >>= act_named
  told ← told_at (entry_keys act) (beside act) (field (codes "irp") irp_at form) form
  call ← entry_call_of act told
  lock ← lock_told act form
  Some (record { call = call; lock = lock.0; drained = lock.1 })
