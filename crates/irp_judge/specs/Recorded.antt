-- What an entry says that closures answered.
use Rattle.std.specs.Prelude.{ℕ, ◌≡◌, ◌==◌, Bool, false, if◌then◌else◌, List, [], ◌∷◌, slice_get, Option, Some, None, unwrap_or}
use Rattle.std.specs.Option.{option_or, option_map_or}
use Rattle.irp_types.specs.Allowed.{IsAnswerAllowed, IsPlanAllowed, IsCancelAllowed}
use Rattle.irp_types.specs.State.{Tables, known_of}
use Rattle.irp_types.specs.declared.names.DeviceId.{DeviceId}
use Rattle.irp_types.specs.declared.names.DispatchId.{DispatchId}
use Rattle.irp_types.specs.declared.names.CancelId.{CancelId}
use Rattle.irp_types.specs.declared.routine.RoutineId.{RoutineId}
use Rattle.irp_types.specs.declared.routine.CancelRule.{CancelRule}
use Rattle.irp_types.specs.declared.routine.Known.{Known}
use Rattle.irp_types.specs.declared.shown.Shown.{Shown}
use Rattle.irp_types.specs.declared.answer.Answer.{Answer}
use Rattle.irp_types.specs.declared.answer.CancelAnswer.{CancelAnswer}
use Rattle.irp_types.specs.declared.answer.CancelAnswer.TheVariants.{Leave}
use Rattle.irp_types.specs.declared.answer.Plan.{Plan}
use Rattle.irp_types.specs.declared.asked.Asked.{Asked}
use Rattle.irp_types.specs.declared.asked.Asked.TheVariants.{Dispatch, Completion, Cancel}
use Rattle.irp_routines.specs.Answers.{AreAnswered}
use Rattle.irp_routines.specs.Guarded.{fixed_plan, guarded_plan, guarded_answer, guarded_cancel}

-- both are devices, and the same one
abbrev pub is_same_device : Option DeviceId → Option DeviceId → Bool
is_same_device None other = false
is_same_device (Some device) None = false
is_same_device (Some device) (Some other) = device.0 == other.0

-- what a question says that the dispatch of this device planned
abbrev pub plan_in : Option DeviceId → Asked → Option Plan
plan_in device (Dispatch id shown plan) = if is_same_device shown.device device then Some plan else None
plan_in device (Completion id shown answer) = None
plan_in device (Cancel id shown answer) = None

-- what a question says that the completion routine of this location answered
abbrev pub answer_in : ℕ → Asked → Option Answer
answer_in location (Dispatch id shown plan) = None
answer_in location (Completion id shown answer) = if shown.location == location then Some answer else None
answer_in location (Cancel id shown answer) = None

-- what a question says that a cancel routine answered
abbrev pub cancel_in : Asked → Option CancelAnswer
cancel_in (Dispatch id shown plan) = None
cancel_in (Completion id shown answer) = None
cancel_in (Cancel id shown answer) = Some answer

-- the first of the answers that these questions say
abbrev pub first_in : {A : Type 0} → (Asked → Option A) → List Asked → Option A
first_in told [] = None
first_in told (question ∷ others) = option_or (told question) (first_in told others)

-- an answer that replaces nothing, keeps nothing and marks nothing
abbrev pub continues : Answer
continues = record { keep = false; mark = false; replacement = None }

-- what a dispatch plans: the first plan of its device, where it is allowed to it
abbrev pub plan_told : Tables → List Asked → DispatchId → Shown → Plan
plan_told tables asked id shown =
    option_map_or
    (λ (known : Known). guarded_plan known shown (unwrap_or (first_in (plan_in shown.device) asked) fixed_plan))
    (known_of tables id) fixed_plan

-- what a completion routine answers: the first answer at its location, where its rule allows it
abbrev pub answer_told : List Asked → RoutineId → Shown → Answer
answer_told asked id shown =
    guarded_answer id.rule shown (unwrap_or (first_in (answer_in shown.location) asked) continues)

-- what a cancel routine answers: the first answer of one, where its rule allows it
abbrev pub cancel_told : Tables → List Asked → CancelId → Shown → CancelAnswer
cancel_told tables asked id shown =
    option_map_or (λ (rule : CancelRule). guarded_cancel rule (unwrap_or (first_in cancel_in asked) Leave))
    (slice_get tables.cancel_rules id.0) Leave

-- a plan is the one that is recorded, and it is allowed
pub record IsPlanTold (tables : Tables) (asked : List Asked) (id : DispatchId) (shown : Shown) (plan : Plan)
    : Type 0 where
  pub allowed : IsPlanAllowed tables id shown plan
  pub told : plan ≡ plan_told tables asked id shown

-- the same of a completion routine's answer
pub record IsAnswerTold (tables : Tables) (asked : List Asked) (id : RoutineId) (shown : Shown) (answer : Answer)
    : Type 0 where
  pub allowed : IsAnswerAllowed tables id shown answer
  pub told : answer ≡ answer_told asked id shown

-- the same of a cancel routine's answer
pub record IsCancelTold (tables : Tables) (asked : List Asked) (id : CancelId) (shown : Shown) (answer : CancelAnswer)
    : Type 0 where
  pub allowed : IsCancelAllowed tables id answer
  pub told : answer ≡ cancel_told tables asked id shown

-- these questions are answered by what an entry with those tells, where that is allowed
abbrev pub AreTold : Tables → List Asked → List Asked → Type 0
AreTold tables told asked =
    AreAnswered (IsPlanTold tables told) (IsAnswerTold tables told) (IsCancelTold tables told) asked
