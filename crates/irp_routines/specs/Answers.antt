-- Which questions were answered as they may be.
use Rattle.std.specs.Prelude.{List}
use Rattle.std.specs.List.{AllByRecursion}
use Rattle.irp_types.specs.declared.names.DispatchId.{DispatchId}
use Rattle.irp_types.specs.declared.names.CancelId.{CancelId}
use Rattle.irp_types.specs.declared.routine.RoutineId.{RoutineId}
use Rattle.irp_types.specs.declared.shown.Shown.{Shown}
use Rattle.irp_types.specs.declared.answer.Answer.{Answer}
use Rattle.irp_types.specs.declared.answer.CancelAnswer.{CancelAnswer}
use Rattle.irp_types.specs.declared.answer.Plan.{Plan}
use Rattle.irp_types.specs.declared.asked.Asked.{Asked}
use Rattle.irp_types.specs.declared.asked.Asked.TheVariants.{Dispatch, Completion, Cancel}

-- a question was answered as its kind of closure may answer it
abbrev pub IsAnswered :
    (DispatchId → Shown → Plan → Type 0) → (RoutineId → Shown → Answer → Type 0)
    → (CancelId → Shown → CancelAnswer → Type 0) → Asked → Type 0
IsAnswered may_plan may_answer may_cancel (Dispatch id shown plan) = may_plan id shown plan
IsAnswered may_plan may_answer may_cancel (Completion id shown answer) = may_answer id shown answer
IsAnswered may_plan may_answer may_cancel (Cancel id shown answer) = may_cancel id shown answer

-- each question was
abbrev pub AreAnswered :
    (DispatchId → Shown → Plan → Type 0) → (RoutineId → Shown → Answer → Type 0)
    → (CancelId → Shown → CancelAnswer → Type 0) → List Asked → Type 0
AreAnswered may_plan may_answer may_cancel asked = AllByRecursion (IsAnswered may_plan may_answer may_cancel) asked
