-- How the questions of a session are answered.
use Rattle.std.specs.Prelude.{List, All}
use Rattle.irp_types.specs.declared.names.DispatchId.{DispatchId}
use Rattle.irp_types.specs.declared.names.CancelId.{CancelId}
use Rattle.irp_types.specs.declared.routine.RoutineId.{RoutineId}
use Rattle.irp_types.specs.declared.shown.Shown.{Shown}
use Rattle.irp_types.specs.declared.answer.Answer.{Answer}
use Rattle.irp_types.specs.declared.answer.CancelAnswer.{CancelAnswer}
use Rattle.irp_types.specs.declared.answer.Plan.{Plan}
use Rattle.irp_types.specs.declared.asked.Asked.{Asked}
use Rattle.irp_types.specs.declared.entry.Entry.{Entry}
use Rattle.irp_routines.specs.Answers.{IsAnswered}

-- whatever question is answered as these three allow (a dispatch's plan, a completion routine's answer, a cancel
-- routine's answer), `may` holds of it with its answer. The bars say that it holds, and keep nothing else of its proof.
abbrev pub AnswersSo :
    (DispatchId → Shown → Plan → Type 0)
    → (RoutineId → Shown → Answer → Type 0)
    → (CancelId → Shown → CancelAnswer → Type 0)
    → (Asked → Type 0) → Type 0
AnswersSo may_plan may_answer may_cancel may =
    (asked : Asked) → IsAnswered may_plan may_answer may_cancel asked → ∥ may asked ∥₁

-- of each question of each entry of the history, with its answer, `may` holds. The bars are those of `AnswersSo`.
abbrev pub EachAnswered : (Asked → Type 0) → List Entry → Type 0
EachAnswered may history =
    All (λ (entry : Entry). All (λ (asked : Asked). ∥ may asked ∥₁) entry.asked) history
