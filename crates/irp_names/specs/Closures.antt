-- Closures, and what they answered, in words.
use Rattle.std.specs.Prelude.{ℕ, ◌≡◌, ◌<◌, ◌^◌, Bool, true, false, List, [], ◌++◌, codes, Option, Some, None, ⊤}
use Rattle.std.specs.Fmt.{decimal}
use Rattle.irp_types.specs.declared.answer.Answer.{Answer}
use Rattle.irp_types.specs.declared.answer.CancelAnswer.{CancelAnswer}
use Rattle.irp_types.specs.declared.answer.CancelAnswer.TheVariants as cancels
use Rattle.irp_types.specs.declared.answer.Plan.{Plan}
use Rattle.irp_types.specs.declared.answer.Plan.TheVariants as plan
use Rattle.irp_types.specs.declared.answer.Replacement.{Replacement}
use Rattle.irp_types.specs.declared.asked.Asked.{Asked}
use Rattle.irp_types.specs.declared.asked.Asked.TheVariants as asked
use Rattle.irp_types.specs.declared.names.CancelId.{CancelId}
use Rattle.irp_types.specs.declared.routine.Setting.{Setting}
use Rattle.irp_names.specs.Calls.{setting_text}
use Rattle.irp_names.specs.Small.{hex_text, routine_text, told_if}
use Rattle.irp_names.specs.Statuses.{result_text}

-- a closure by its name
abbrev pub closure_text : Asked → List ℕ
closure_text (asked.Dispatch id shown plan) = codes "dispatch " ++ decimal id.0
closure_text (asked.Completion id shown answer) = routine_text id
closure_text (asked.Cancel id shown answer) = codes "cancel routine " ++ decimal id.0

-- the cancel routine that is set; the completion routine that is
abbrev pub cancel_set : Option CancelId → List ℕ
cancel_set None = []
cancel_set (Some id) = codes "IoSetCancelRoutine(cancel routine " ++ (decimal id.0 ++ codes "), ")

abbrev pub routine_set : Option Setting → List ℕ
routine_set None = []
routine_set (Some set) = codes "IoSetCompletionRoutine(" ++ (setting_text set ++ codes "), ")

-- a packet that is passed down in the next lower location
abbrev pub forwarding : Option Setting → List ℕ
forwarding set = codes "IoCopyCurrentIrpStackLocationToNext, " ++ (routine_set set ++ codes "IoCallDriver")

-- what a dispatch did
abbrev pub plan_text : Plan → List ℕ
plan_text (plan.Finish status information) = codes "IoCompleteRequest with " ++ result_text status information
plan_text (plan.Hold cancel) =
    codes "IoMarkIrpPending, " ++ (cancel_set cancel ++ codes "keeps the packet, returns STATUS_PENDING")
plan_text plan.HoldSlot = codes "IoMarkIrpPending, keeps the packet for a cancel slot, returns STATUS_PENDING"
plan_text plan.Skip = codes "IoSkipCurrentIrpStackLocation, IoCallDriver"
plan_text (plan.Forward set) = forwarding set
plan_text (plan.ForwardPend set) = codes "IoMarkIrpPending, " ++ (forwarding set ++ codes ", returns STATUS_PENDING")

-- what a completion routine did
abbrev pub kept_words : Bool → List ℕ
kept_words true = codes "returns STATUS_MORE_PROCESSING_REQUIRED: keeps the packet"
kept_words false = codes "returns STATUS_CONTINUE_COMPLETION"

abbrev pub replaced_text : Option Replacement → List ℕ
replaced_text None = []
replaced_text (Some put) = codes "sets " ++ (result_text put.status put.information ++ codes ", ")

abbrev pub answer_text : Answer → List ℕ
answer_text answer =
    told_if answer.mark (codes "IoMarkIrpPending, ") ++ (replaced_text answer.replacement ++ kept_words answer.keep)

-- what a cancel routine did
abbrev pub cancel_answer_text : CancelAnswer → List ℕ
cancel_answer_text (cancels.Finish information) =
    codes "IoCompleteRequest with STATUS_CANCELLED, information " ++ hex_text information
cancel_answer_text cancels.Leave = codes "leaves the packet with its device"

-- what a closure answered
abbrev pub answered_text : Asked → List ℕ
answered_text (asked.Dispatch id shown plan) = plan_text plan
answered_text (asked.Completion id shown answer) = answer_text answer
answered_text (asked.Cancel id shown answer) = cancel_answer_text answer

-- ---- no two plans have one text

-- the numbers of a setting, and of a plan, have at most 64 bits
abbrev pub SettingHas64Bits : Option Setting → Type 0
SettingHas64Bits None = ⊤
SettingHas64Bits (Some set) = (set.routine.no < 2 ^ 64) × (set.context < 2 ^ 64)

abbrev pub CancelHas64Bits : Option CancelId → Type 0
CancelHas64Bits None = ⊤
CancelHas64Bits (Some id) = id.0 < 2 ^ 64

abbrev pub PlanHas64Bits : Plan → Type 0
PlanHas64Bits (plan.Finish status information) = (status.0 < 2 ^ 64) × (information < 2 ^ 64)
PlanHas64Bits (plan.Hold cancel) = CancelHas64Bits cancel
PlanHas64Bits plan.HoldSlot = ⊤
PlanHas64Bits plan.Skip = ⊤
PlanHas64Bits (plan.Forward set) = SettingHas64Bits set
PlanHas64Bits (plan.ForwardPend set) = SettingHas64Bits set

-- two plans with one text are one plan
abbrev pub PlansAreToldApart : Type 0
PlansAreToldApart =
    (one other : Plan) → PlanHas64Bits one → PlanHas64Bits other → plan_text one ≡ plan_text other → one ≡ other
