-- Refusals in words.
use Rattle.std.specs.Prelude.{ℕ, List, [], ◌++◌, codes, Option, Some, None}
use Rattle.std.specs.Option.{option_map_or}
pub use Rattle.irp_types.specs.Refusal.{refusal_meaning, refusal_name}
use Rattle.irp_types.specs.Calls.{Call}
use Rattle.irp_types.specs.declared.refusal.Refusal.{Refusal}
use Rattle.irp_types.specs.declared.refusal.Refusal.TheVariants as refusal
use Rattle.irp_forms.specs.Steps.{kind_of}
use Rattle.irp_forms.specs.declared.step_names.ActKind.{ActKind}
use Rattle.irp_forms.specs.declared.step_names.ActKind.TheVariants as act

-- the name in Windows of the mistake for which such a call is refused so, if there is one
abbrev pub completion_name : Refusal → Option (List ℕ)
completion_name refusal.Ended = Some (codes "bug check 0x44, MULTIPLE_IRP_COMPLETE_REQUESTS; rule DoubleCompletion")
completion_name refusal.BadStatus = Some (codes "Driver Verifier 0xC9, code 6; rule CompleteRequestStatusCheck")
completion_name refusal.CancelRoutineSet =
    Some (codes "bug check 0x48, CANCEL_STATE_IN_COMPLETED_IRP; Driver Verifier 0xC9, code 7")
completion_name _ = None

abbrev pub sending_name : Refusal → Option (List ℕ)
sending_name refusal.TooShort = Some (codes "bug check 0x35, NO_MORE_IRP_STACK_LOCATIONS")
sending_name _ = None

abbrev pub reuse_name : Refusal → Option (List ℕ)
reuse_name refusal.InFlight = Some (codes "rule IoReuseIrp")
reuse_name _ = None

abbrev pub delete_name : Refusal → Option (List ℕ)
delete_name refusal.NotDrained = Some (codes "the RemoveLock rules")
delete_name _ = None

abbrev pub mistake_name : ActKind → Refusal → Option (List ℕ)
mistake_name act.CallDriver refusal = sending_name refusal
mistake_name act.Complete refusal = completion_name refusal
mistake_name act.FinishTaken refusal = completion_name refusal
mistake_name act.Reuse refusal = reuse_name refusal
mistake_name act.Delete refusal = delete_name refusal
mistake_name _ refusal = None

abbrev pub windows_name : Call → Refusal → Option (List ℕ)
windows_name call refusal = mistake_name (kind_of call) refusal

-- a refusal, when it comes, and its name in Windows where it has one
abbrev pub refusal_text : Call → Refusal → List ℕ
refusal_text call refusal =
    refusal_name refusal ++ (codes ", " ++ (refusal_meaning refusal
    ++ option_map_or (λ (name : List ℕ). codes " (in Windows: " ++ (name ++ codes ")")) (windows_name call refusal) []))
