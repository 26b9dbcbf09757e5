-- An entry's call is read as it was written, and its form stands.
use Rattle.std.proofs.Common.{◌≡◌, ℕ, suc, ◌+◌, ◌==◌, ◌&&◌, Bool, true, codes, length, map, Option, Some, refl}
use Rattle.serde_json.specs.Data.{Data}
use Rattle.serde_json.specs.Find.{get, as_str}
use Rattle.irp_forms.specs.Fields.{field}
use Rattle.irp_forms.specs.Parts.{◌>>=◌, count_members, each_key}
use Rattle.irp_forms.specs.Steps.{act_named, act_rows, keys_of, kind_of, step_keys}
use Rattle.irp_forms.specs.Told.{call_of, part_at, part_under, told_at}
use Rattle.irp_forms.specs.Values.{irp_at}
use Rattle.irp_types.specs.Calls.{Call}
use Rattle.irp_types.specs.declared.call.Call.TheVariants as call
use Rattle.irp_types.specs.declared.names.LockNo.{LockNo}
use Rattle.irp_transcript_reader.specs.Calls.{beside, entry_call_at, entry_call_of, entry_keys, lock_told}
use Rattle.irp_transcript_writer.specs.Lines.{call_json, lock_json}
use Rattle.irp_fast_reader.proofs.Numbers.{byte_wide, wide, or_null_stands}
use Rattle.irp_fast_reader.proofs.Stands.{Stands}
use Rattle.irp_fast_reader.proofs.Told.{parts_back, read_again}
use Rattle.irp_fast_reader.proofs.Values.{cancel_or_null_stands, irp_stands, lock_or_null_back, party_stands, setting_stands}
use Rattle.irp_fast_reader.specs.Fits.{CallFits, TellsLock}
use Rattle.irp_fast_reader.specs.Parts.{LockFits, parts_of}

-- what a call's form tells: its act, no other keys than the act has, under these what was written there, which makes the
-- call, and the lock that its entry tells
abbrev Tells : Call → Option LockNo → Bool → Data → Type 0
Tells made lock drained form =
    ((get (codes "do") form >>= as_str >>= act_named) ≡ Some (kind_of made))
    × (((count_members form == (length (entry_keys (kind_of made)) + length (beside (kind_of made)))) && each_key (beside (kind_of made)) form) ≡ true)
    × (map (λ key. part_under key (field (codes "irp") irp_at form) form) (entry_keys (kind_of made)) ≡ map read_again (parts_of made))
    × (entry_call_of (kind_of made) (parts_of made) ≡ Some made)
    × (lock_told (kind_of made) form ≡ Some (lock, drained))

tells : (made : Call) (lock : Option LockNo) (drained : Bool) → TellsLock made lock drained → Tells made lock drained (call_json made lock drained)
unfolding act_named act_rows keys_of step_keys part_at call_of
tells (call.CreateDevice driver lock) own drained told = (refl, refl, refl, refl, rw (told.0, told.1))
tells (call.Attach device to) own drained told = (refl, refl, refl, refl, rw (told.0, told.1))
tells (call.Detach lower) own drained told = (refl, refl, refl, refl, rw (told.0, told.1))
tells (call.Delete device) own drained told = (refl, refl, refl, refl, rw (lock_or_null_back own told))
tells (call.Allocate size) own drained told = (refl, refl, refl, refl, rw (told.0, told.1))
tells (call.Free irp) own drained told = (refl, refl, refl, refl, rw (told.0, told.1))
tells (call.Reuse irp status) own drained told = (refl, refl, refl, refl, rw (told.0, told.1))
tells (call.SetNext party irp major word) own drained told = (refl, refl, refl, refl, rw (told.0, told.1))
tells (call.CopyToNext party irp) own drained told = (refl, refl, refl, refl, rw (told.0, told.1))
tells (call.Skip party irp) own drained told = (refl, refl, refl, refl, rw (told.0, told.1))
tells (call.SetRoutine party irp setting) own drained told = (refl, refl, refl, refl, rw (told.0, told.1))
tells (call.MarkPending party irp) own drained told = (refl, refl, refl, refl, rw (told.0, told.1))
tells (call.CallDriver party irp target) own drained told = (refl, refl, refl, refl, rw (told.0, told.1))
tells (call.Complete party irp status information) own drained told = (refl, refl, refl, refl, rw (told.0, told.1))
tells (call.FinishTaken irp token status information) own drained told = (refl, refl, refl, refl, rw (told.0, told.1))
tells (call.SetCancelRoutine party irp cancel) own drained told = (refl, refl, refl, refl, rw (told.0, told.1))
tells (call.Cancel irp) own drained told = (refl, refl, refl, refl, rw (told.0, told.1))
tells (call.Look irp) own drained told = (refl, refl, refl, refl, rw (told.0, told.1))

-- a call, with the lock that its entry tells
pub call_back : (made : Call) (lock : Option LockNo) (drained : Bool) → CallFits made → TellsLock made lock drained
    → entry_call_at (call_json made lock drained) ≡ Some (record { call = made; lock = lock; drained = drained })
unfolding entry_call_at told_at
call_back made lock drained h told =
    let form : Data = call_json made lock drained in
    let given = tells made lock drained told in
    rw (
      given.0,
      given.1,
      parts_back (entry_keys (kind_of made)) (parts_of made) (field (codes "irp") irp_at form) form given.2 h,
      given.3,
      given.4,
    )
    refl

pub call_stands : (levels : ℕ) (made : Call) (lock : Option LockNo) (drained : Bool) → CallFits made → TellsLock made lock drained
    → Stands (call_json made lock drained) (suc (suc levels))
call_stands levels (call.CreateDevice driver lock) own drained h told = (refl, refl, (refl, (wide driver.0 h.0, (wide lock.0 h.1, tt))))
call_stands levels (call.Attach device to) own drained h told = (refl, refl, (wide device.0 h.0, (refl, (wide to.0 h.1, tt))))
call_stands levels (call.Detach lower) own drained h told = (refl, refl, (refl, (wide lower.0 h, tt)))
call_stands levels (call.Delete device) own drained h told = (refl, refl, (wide device.0 h, (refl, (tt, (or_null_stands lock_json LockFits (suc levels) (λ given k. wide given.0 k) own told, tt)))))
call_stands levels (call.Allocate size) own drained h told = (refl, refl, (refl, (byte_wide size h, tt)))
call_stands levels (call.Free irp) own drained h told = (refl, refl, (refl, (irp_stands levels irp h, tt)))
call_stands levels (call.Reuse irp status) own drained h told = (refl, refl, (refl, (irp_stands levels irp h.0, (wide status.0 h.1, tt))))
call_stands levels (call.SetNext party irp major word) own drained h told = (refl, refl, (party_stands (suc levels) party h.0, (refl, (irp_stands levels irp h.1.0, (byte_wide major h.1.1.0, (h.1.1.1, tt))))))
call_stands levels (call.CopyToNext party irp) own drained h told = (refl, refl, (party_stands (suc levels) party h.0, (refl, (irp_stands levels irp h.1, tt))))
call_stands levels (call.Skip party irp) own drained h told = (refl, refl, (party_stands (suc levels) party h.0, (refl, (irp_stands levels irp h.1, tt))))
call_stands levels (call.SetRoutine party irp setting) own drained h told =
    (refl, refl, (party_stands (suc levels) party h.0, (refl, (irp_stands levels irp h.1.0, (setting_stands levels setting h.1.1, tt)))))
call_stands levels (call.MarkPending party irp) own drained h told = (refl, refl, (party_stands (suc levels) party h.0, (refl, (irp_stands levels irp h.1, tt))))
call_stands levels (call.CallDriver party irp target) own drained h told = (refl, refl, (party_stands (suc levels) party h.0, (refl, (irp_stands levels irp h.1.0, (wide target.0 h.1.1, tt)))))
call_stands levels (call.Complete party irp status information) own drained h told = (refl, refl, (party_stands (suc levels) party h.0, (refl, (h.1.1.1, (irp_stands levels irp h.1.0, (wide status.0 h.1.1.0, tt))))))
call_stands levels (call.FinishTaken irp token status information) own drained h told = (refl, refl, (refl, (h.1.1.1, (irp_stands levels irp h.0, (wide status.0 h.1.1.0, (h.1.0, tt))))))
call_stands levels (call.SetCancelRoutine party irp cancel) own drained h told =
    (refl, refl, (party_stands (suc levels) party h.0, (cancel_or_null_stands (suc levels) cancel h.1.1, (refl, (irp_stands levels irp h.1.0, tt)))))
call_stands levels (call.Cancel irp) own drained h told = (refl, refl, (refl, (irp_stands levels irp h, tt)))
call_stands levels (call.Look irp) own drained h told = (refl, refl, (refl, (irp_stands levels irp h, tt)))
