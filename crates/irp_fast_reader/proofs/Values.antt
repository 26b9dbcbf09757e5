-- References, settings, plans and answers are read as they were written, and their forms stand.
use Rattle.std.proofs.Common.{◌≡◌, ℕ, suc, ◌^◌, ◌<◌, Bool, true, false, Option, Some, None, refl}
use Rattle.std.specs.Prelude.{IfSome}
use Rattle.serde_json.specs.Data.{string}
use Rattle.irp_forms.specs.Found.{rule_found}
use Rattle.irp_forms.specs.Names.{every_flags, first_named, flagged, flags_at, flags_name, rule_at, rule_name, rules}
use Rattle.irp_forms.specs.Parts.{or_null_at}
use Rattle.irp_forms.specs.Questions.{answer_at, keep_named}
use Rattle.irp_forms.specs.Values.{cancel_answer_at, cancel_at, device_at, irp_at, lock_at, party_at, plan_at, replacement_at, routine_at, setting_at, status_at}
use Rattle.irp_types.specs.declared.{answer.Answer.Answer, answer.CancelAnswer.CancelAnswer, answer.Plan.Plan}
use Rattle.irp_types.specs.declared.{answer.Replacement.Replacement, call.Party.Party, names.CancelId.CancelId}
use Rattle.irp_types.specs.declared.{names.DeviceId.DeviceId, names.IrpRef.IrpRef, names.LockNo.LockNo}
use Rattle.irp_types.specs.declared.{routine.RoutineId.RoutineId, routine.Rule.Rule, routine.Setting.Setting}
use Rattle.irp_types.specs.declared.status.Status.{Status}
use Rattle.irp_types.specs.declared.answer.CancelAnswer.TheVariants as cancel_answer
use Rattle.irp_types.specs.declared.answer.Plan.TheVariants as plan
use Rattle.irp_types.specs.declared.call.Party.TheVariants as party
use Rattle.irp_transcript_writer.specs.Json.{or_null}
use Rattle.irp_transcript_writer.specs.Lines.{answer_json, cancel_answer_json, cancel_json, device_json, irp_json, lock_json, party_json, plan_json, replacement_json, routine_json, setting_json, status_json}
use Rattle.irp_fast_reader.proofs.Names.{found_plain}
use Rattle.irp_fast_reader.proofs.Numbers.{u32_back, u64_back, wide, or_null_stands}
use Rattle.irp_fast_reader.proofs.Stands.{are_plain, Stands}
use Rattle.irp_fast_reader.specs.Fits.{AnswerFits, CancelAnswerFits, PlanFits, ReplacementFits}
use Rattle.irp_fast_reader.specs.Parts.{CancelFits, DeviceFits, IrpFits, LockFits, PartyFits, SettingFits, StatusFits}

-- ---- what is read

pub device_back : (device : DeviceId) → DeviceFits device → device_at (device_json device) ≡ Some device
device_back device h = rw (u32_back device.0 h)

pub cancel_back : (cancel : CancelId) → CancelFits cancel → cancel_at (cancel_json cancel) ≡ Some cancel
cancel_back cancel h = rw (u32_back cancel.0 h)

pub lock_back : (lock : LockNo) → LockFits lock → lock_at (lock_json lock) ≡ Some lock
lock_back lock h = rw (u32_back lock.0 h)

pub status_back : (status : Status) → StatusFits status → status_at (status_json status) ≡ Some status
status_back status h = rw (u32_back status.0 h)

pub irp_back : (irp : IrpRef) → IrpFits irp → irp_at (irp_json irp) ≡ Some irp
unfolding irp_at
irp_back irp h = rw (u32_back irp.slot h.0, u64_back irp.use_no h.1)

pub party_back : (caller : Party) → PartyFits caller → party_at (party_json caller) ≡ Some caller
unfolding party_at
party_back party.Originator h = refl
party_back (party.Device device) h = rw (device_back device h)

pub device_or_null_back : (option : Option DeviceId) → IfSome option DeviceFits → or_null_at device_at (or_null device_json option) ≡ Some option
device_or_null_back None h = refl
device_or_null_back (Some device) h = rw (device_back device h)

pub cancel_or_null_back : (option : Option CancelId) → IfSome option CancelFits → or_null_at cancel_at (or_null cancel_json option) ≡ Some option
cancel_or_null_back None h = refl
cancel_or_null_back (Some cancel) h = rw (cancel_back cancel h)

pub lock_or_null_back : (option : Option LockNo) → IfSome option LockFits → or_null_at lock_at (or_null lock_json option) ≡ Some option
lock_or_null_back None h = refl
lock_or_null_back (Some lock) h = rw (lock_back lock h)

rule_back : (kind : Rule) → rule_at (string (rule_name kind)) ≡ Some kind
rule_back kind = rule_found kind

pub routine_back : (routine : RoutineId) → routine.no < 2 ^ 32 → routine_at (routine_json routine) ≡ Some routine
unfolding routine_at
routine_back routine h = rw (rule_back routine.rule, u32_back routine.no h)

flags_found : (s e c : Bool) → first_named flags_name every_flags (flags_name (flagged s e c)) ≡ Some (flagged s e c)
unfolding every_flags
flags_found true true true = refl
flags_found true true false = refl
flags_found true false true = refl
flags_found true false false = refl
flags_found false true true = refl
flags_found false true false = refl
flags_found false false true = refl
flags_found false false false = refl

pub setting_back : (setting : Setting) → SettingFits setting → setting_at (setting_json setting) ≡ Some setting
unfolding setting_at flags_at
setting_back setting h =
    rw (
      rule_back setting.routine.rule,
      u32_back setting.routine.no h.0,
      u64_back setting.context h.1,
      flags_found setting.on_success setting.on_error setting.on_cancel,
    )

setting_or_null_back : (option : Option Setting) → IfSome option SettingFits → or_null_at setting_at (or_null setting_json option) ≡ Some option
setting_or_null_back None h = refl
setting_or_null_back (Some setting) h = rw (setting_back setting h)

pub plan_back : (chosen : Plan) → PlanFits chosen → plan_at (plan_json chosen) ≡ Some chosen
unfolding plan_at
plan_back (plan.Finish status information) h = rw (status_back status h.0, u64_back information h.1)
plan_back (plan.Hold cancel) h = rw (cancel_or_null_back cancel h)
plan_back plan.HoldSlot h = refl
plan_back plan.Skip h = refl
plan_back (plan.Forward setting) h = rw (setting_or_null_back setting h)
plan_back (plan.ForwardPend setting) h = rw (setting_or_null_back setting h)

replacement_back : (replacement : Replacement) → ReplacementFits replacement → replacement_at (replacement_json replacement) ≡ Some replacement
unfolding replacement_at
replacement_back replacement h = rw (status_back replacement.status h.0, u64_back replacement.information h.1)

replacement_or_null_back : (option : Option Replacement) → IfSome option ReplacementFits
    → or_null_at replacement_at (or_null replacement_json option) ≡ Some option
replacement_or_null_back None h = refl
replacement_or_null_back (Some replacement) h = rw (replacement_back replacement h)

kept_back : (keep mark : Bool) (replacement : Option Replacement) → IfSome replacement ReplacementFits
    → answer_at (answer_json (record { keep = keep; mark = mark; replacement = replacement }))
    ≡ Some (record { keep = keep; mark = mark; replacement = replacement })
unfolding answer_at keep_named
kept_back true mark replacement h = rw (replacement_or_null_back replacement h)
kept_back false mark replacement h = rw (replacement_or_null_back replacement h)

pub answer_back : (answer : Answer) → AnswerFits answer → answer_at (answer_json answer) ≡ Some answer
answer_back answer h = kept_back answer.keep answer.mark answer.replacement h

pub cancel_answer_back : (answer : CancelAnswer) → CancelAnswerFits answer → cancel_answer_at (cancel_answer_json answer) ≡ Some answer
unfolding cancel_answer_at
cancel_answer_back (cancel_answer.Finish information) h = rw (u64_back information h)
cancel_answer_back cancel_answer.Leave h = refl

-- ---- what stands

pub irp_stands : (levels : ℕ) (irp : IrpRef) → IrpFits irp → Stands (irp_json irp) (suc levels)
irp_stands levels irp h = (wide irp.slot h.0, (h.1, tt))

pub party_stands : (levels : ℕ) (caller : Party) → PartyFits caller → Stands (party_json caller) levels
party_stands levels party.Originator h = refl
party_stands levels (party.Device device) h = wide device.0 h

pub cancel_or_null_stands : (levels : ℕ) (option : Option CancelId) → IfSome option CancelFits → Stands (or_null cancel_json option) levels
cancel_or_null_stands levels option h = or_null_stands cancel_json CancelFits levels (λ cancel k. wide cancel.0 k) option h

rule_plain : (kind : Rule) → are_plain (rule_name kind) ≡ true
unfolding rules
rule_plain kind = found_plain rule_name rules kind refl (rule_found kind)

pub routine_stands : (levels : ℕ) (routine : RoutineId) → routine.no < 2 ^ 32 → Stands (routine_json routine) (suc levels)
routine_stands levels routine h = (rule_plain routine.rule, (wide routine.no h, tt))

flags_plain : (s e c : Bool) → are_plain (flags_name (flagged s e c)) ≡ true
unfolding every_flags
flags_plain s e c = found_plain flags_name every_flags (flagged s e c) refl (flags_found s e c)

pub setting_stands : (levels : ℕ) (setting : Setting) → SettingFits setting → Stands (setting_json setting) (suc levels)
setting_stands levels setting h =
    (rule_plain setting.routine.rule, (wide setting.routine.no h.0, (h.1, (flags_plain setting.on_success setting.on_error setting.on_cancel, tt))))

pub plan_stands : (levels : ℕ) (chosen : Plan) → PlanFits chosen → Stands (plan_json chosen) (suc (suc levels))
plan_stands levels (plan.Finish status information) h = (refl, (wide status.0 h.0, (h.1, tt)))
plan_stands levels (plan.Hold cancel) h = (refl, (cancel_or_null_stands (suc levels) cancel h, tt))
plan_stands levels plan.HoldSlot h = (refl, tt)
plan_stands levels plan.Skip h = (refl, tt)
plan_stands levels (plan.Forward setting) h = (refl, (or_null_stands setting_json SettingFits (suc levels) (setting_stands levels) setting h, tt))
plan_stands levels (plan.ForwardPend setting) h = (refl, (or_null_stands setting_json SettingFits (suc levels) (setting_stands levels) setting h, tt))

replacement_stands : (levels : ℕ) (replacement : Replacement) → ReplacementFits replacement → Stands (replacement_json replacement) (suc levels)
replacement_stands levels replacement h = (wide replacement.status.0 h.0, (h.1, tt))

kept_stands : (levels : ℕ) (keep mark : Bool) (replacement : Option Replacement) → IfSome replacement ReplacementFits
    → Stands (answer_json (record { keep = keep; mark = mark; replacement = replacement })) (suc (suc levels))
kept_stands levels true mark replacement h =
    (refl, (tt, (or_null_stands replacement_json ReplacementFits (suc levels) (replacement_stands levels) replacement h, tt)))
kept_stands levels false mark replacement h =
    (refl, (tt, (or_null_stands replacement_json ReplacementFits (suc levels) (replacement_stands levels) replacement h, tt)))

pub answer_stands : (levels : ℕ) (answer : Answer) → AnswerFits answer → Stands (answer_json answer) (suc (suc levels))
answer_stands levels answer h = kept_stands levels answer.keep answer.mark answer.replacement h

pub cancel_answer_stands : (levels : ℕ) (answer : CancelAnswer) → CancelAnswerFits answer → Stands (cancel_answer_json answer) (suc levels)
cancel_answer_stands levels (cancel_answer.Finish information) h = (refl, (h, tt))
cancel_answer_stands levels cancel_answer.Leave h = (refl, tt)
