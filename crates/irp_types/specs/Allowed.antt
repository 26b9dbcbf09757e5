-- What tables allow a closure to answer. A closure that isn't in them may answer nothing.
use Rattle.std.specs.Prelude.{◌≡◌, ◌<◌, true, slice_get, Some}
use Rattle.irp_types.specs.Rules.{count_of_rule, is_allowed, is_plan_allowed, is_cancel_allowed}
use Rattle.irp_types.specs.State.{Tables, known_of}
use Rattle.irp_types.specs.declared.names.DispatchId.{DispatchId}
use Rattle.irp_types.specs.declared.names.CancelId.{CancelId}
use Rattle.irp_types.specs.declared.routine.RoutineId.{RoutineId}
use Rattle.irp_types.specs.declared.routine.CancelRule.{CancelRule}
use Rattle.irp_types.specs.declared.routine.Known.{Known}
use Rattle.irp_types.specs.declared.shown.Shown.{Shown}
use Rattle.irp_types.specs.declared.answer.Answer.{Answer}
use Rattle.irp_types.specs.declared.answer.CancelAnswer.{CancelAnswer}
use Rattle.irp_types.specs.declared.answer.Plan.{Plan}

-- a completion routine is there, and its rule allows the answer
pub record IsAnswerAllowed (tables : Tables) (id : RoutineId) (shown : Shown) (answer : Answer) : Type 0 where
  pub there : id.no < count_of_rule tables.counts id.rule
  pub allowed : is_allowed id.rule shown answer ≡ true

-- a dispatch is there, and given the routines that it may name it may plan so
pub record IsPlanAllowed (tables : Tables) (id : DispatchId) (shown : Shown) (plan : Plan) : Type 0 where
  pub known : Known
  pub there : known_of tables id ≡ Some known
  pub allowed : is_plan_allowed known shown plan ≡ true

-- a cancel routine is there, and its rule allows the answer
pub record IsCancelAllowed (tables : Tables) (id : CancelId) (answer : CancelAnswer) : Type 0 where
  pub rule : CancelRule
  pub there : slice_get tables.cancel_rules id.0 ≡ Some rule
  pub allowed : is_cancel_allowed rule answer ≡ true
