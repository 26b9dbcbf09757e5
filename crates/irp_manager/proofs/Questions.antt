-- Questions to completion routines, as questions of any kind.
use Rattle.std.proofs.Common.{List, [], ◌∷◌, map}
use Rattle.std.specs.List.{AllByRecursion}
use Rattle.irp_types.specs.Unwinding.{Asking, as_asked}
use Rattle.irp_types.specs.declared.names.DispatchId.{DispatchId}
use Rattle.irp_types.specs.declared.names.CancelId.{CancelId}
use Rattle.irp_types.specs.declared.routine.RoutineId.{RoutineId}
use Rattle.irp_types.specs.declared.shown.Shown.{Shown}
use Rattle.irp_types.specs.declared.answer.Answer.{Answer}
use Rattle.irp_types.specs.declared.answer.CancelAnswer.{CancelAnswer}
use Rattle.irp_types.specs.declared.answer.Plan.{Plan}
use Rattle.irp_routines.specs.Answers.{AreAnswered}
use Rattle.irp_unwind.specs.Endings.{IsGiven}

pub given_answered : (may_plan : DispatchId → Shown → Plan → Type 0) (may_answer : RoutineId → Shown → Answer → Type 0) (may_cancel : CancelId → Shown → CancelAnswer → Type 0) (asked : List Asking)
    → AllByRecursion (IsGiven may_answer) asked → AreAnswered may_plan may_answer may_cancel (map as_asked asked)
given_answered may_plan may_answer may_cancel [] given = tt
given_answered may_plan may_answer may_cancel (asking ∷ others) given = (given.0, given_answered may_plan may_answer may_cancel others given.1)
