-- What an asker answers that is held to tables: what these allow, and where they are another asker's own, what that one
-- may answer.
use Rattle.std.specs.Prelude.{List}
use Rattle.irp_types.specs.State.{Tables}
use Rattle.irp_types.specs.Allowed.{IsAnswerAllowed, IsPlanAllowed, IsCancelAllowed}
use Rattle.irp_types.specs.declared.names.DispatchId.{DispatchId}
use Rattle.irp_types.specs.declared.names.CancelId.{CancelId}
use Rattle.irp_types.specs.declared.routine.RoutineId.{RoutineId}
use Rattle.irp_types.specs.declared.shown.Shown.{Shown}
use Rattle.irp_types.specs.declared.answer.Answer.{Answer}
use Rattle.irp_types.specs.declared.answer.CancelAnswer.{CancelAnswer}
use Rattle.irp_types.specs.declared.answer.Plan.{Plan}
use Rattle.irp_types.specs.declared.asked.Asked.{Asked}
use Rattle.irp_routines.specs.Answers.{AreAnswered}

-- the tables allow the plan; where they are the other asker's own, it is one that this may give
pub record PassesPlan (tables : Tables) (own : Type 0) (may : DispatchId → Shown → Plan → Type 0) (id : DispatchId)
    (shown : Shown) (plan : Plan) : Type 0 where
  pub allowed : IsPlanAllowed tables id shown plan
  pub given : own → may id shown plan

-- the same of a completion routine's answer
pub record PassesAnswer (tables : Tables) (own : Type 0) (may : RoutineId → Shown → Answer → Type 0) (id : RoutineId)
    (shown : Shown) (answer : Answer) : Type 0 where
  pub allowed : IsAnswerAllowed tables id shown answer
  pub given : own → may id shown answer

-- the same of a cancel routine's answer
pub record PassesCancel (tables : Tables) (own : Type 0) (may : CancelId → Shown → CancelAnswer → Type 0)
    (id : CancelId) (shown : Shown) (answer : CancelAnswer) : Type 0 where
  pub allowed : IsCancelAllowed tables id answer
  pub given : own → may id shown answer

-- so was all answered that was asked
abbrev pub ArePassed :
    Tables → Type 0 → (DispatchId → Shown → Plan → Type 0) → (RoutineId → Shown → Answer → Type 0)
    → (CancelId → Shown → CancelAnswer → Type 0)
    → List Asked → Type 0
ArePassed tables own may_plan may_answer may_cancel =
    AreAnswered (PassesPlan tables own may_plan) (PassesAnswer tables own may_answer)
    (PassesCancel tables own may_cancel)
