-- What the closures of a script answer.
use Rattle.std.specs.Prelude.{ℕ, ◌≡◌, ◌==◌, ◌-◌, false, if◌then◌else◌, List, [], ◌∷◌, slice_get, Option, Some, None}
use Rattle.std.specs.Option.{option_map_or}
use Rattle.irp_types.specs.Allowed.{IsAnswerAllowed, IsPlanAllowed, IsCancelAllowed}
use Rattle.irp_types.specs.State.{Tables, known_of}
use Rattle.irp_types.specs.declared.names.DispatchId.{DispatchId}
use Rattle.irp_types.specs.declared.names.CancelId.{CancelId}
use Rattle.irp_types.specs.declared.routine.RoutineId.{RoutineId}
use Rattle.irp_types.specs.declared.routine.Rule.{Rule}
use Rattle.irp_types.specs.declared.routine.CancelRule.{CancelRule}
use Rattle.irp_types.specs.declared.routine.Known.{Known}
use Rattle.irp_types.specs.declared.shown.Shown.{Shown}
use Rattle.irp_types.specs.declared.answer.Answer.{Answer}
use Rattle.irp_types.specs.declared.answer.CancelAnswer.{CancelAnswer}
use Rattle.irp_types.specs.declared.answer.CancelAnswer.TheVariants.{Leave}
use Rattle.irp_types.specs.declared.answer.Plan.{Plan}
use Rattle.irp_routines.specs.Guarded.{fixed_plan, guarded_plan, guarded_answer, guarded_cancel}
use Rattle.irp_routines.specs.Shelves.{place_of}
use Rattle.irp_routines.specs.Answers.{AreAnswered}
use Rattle.irp_types.specs.declared.asked.Asked.{Asked}
use Rattle.irp_script_reader.specs.declared.script.CompletionRoutine.{CompletionRoutine}
use Rattle.irp_script_reader.specs.declared.script.ScriptParts.{ScriptParts}
use Rattle.irp_steps.specs.Behaviours.{answer_of, plan_of}

-- an answer that replaces nothing, keeps nothing and marks nothing
abbrev pub continues : Answer
continues = record { keep = false; mark = false; replacement = None }

-- the completion routine of this number among those of a rule
abbrev pub routine_at : List CompletionRoutine → Rule → ℕ → Option CompletionRoutine
routine_at [] rule number = None
routine_at (routine ∷ routines) rule number =
    if place_of routine.rule == place_of rule
    then (if number == 0 then Some routine else routine_at routines rule (number - 1))
    else routine_at routines rule number

-- what that completion routine answers
abbrev pub answer_at : List CompletionRoutine → Rule → ℕ → Shown → Answer
answer_at routines rule number shown =
    option_map_or (λ (routine : CompletionRoutine). answer_of routine shown) (routine_at routines rule number) continues

-- what the dispatch of this number plans
abbrev pub plan_at : List Plan → ℕ → Shown → Plan
plan_at plans number shown = option_map_or (λ (plan : Plan). plan_of plan shown) (slice_get plans number) fixed_plan

-- what the cancel routine of this number answers
abbrev pub cancel_at : List CancelAnswer → ℕ → CancelAnswer
cancel_at answers number = option_map_or (λ (answer : CancelAnswer). answer) (slice_get answers number) Leave

-- what a dispatch plans: what the script tells of it, where it is allowed to it
abbrev pub plan_told : Tables → ScriptParts → DispatchId → Shown → Plan
plan_told tables script id shown =
    option_map_or (λ (known : Known). guarded_plan known shown (plan_at script.dispatches id.0 shown))
    (known_of tables id) fixed_plan

-- what a completion routine answers: what the script tells of it, where its rule allows it
abbrev pub answer_told : ScriptParts → RoutineId → Shown → Answer
answer_told script id shown =
    guarded_answer id.rule shown (answer_at script.completions id.rule id.no shown)

-- what a cancel routine answers: what the script tells of it, where its rule allows it
abbrev pub cancel_told : Tables → ScriptParts → CancelId → Shown → CancelAnswer
cancel_told tables script id shown =
    option_map_or (λ (rule : CancelRule). guarded_cancel rule (cancel_at script.cancels id.0))
    (slice_get tables.cancel_rules id.0) Leave

-- a plan is the one that the script tells, and it is allowed
pub record IsPlanTold (tables : Tables) (script : ScriptParts) (id : DispatchId) (shown : Shown) (plan : Plan)
    : Type 0 where
  pub allowed : IsPlanAllowed tables id shown plan
  pub told : plan ≡ plan_told tables script id shown

-- the same of a completion routine's answer
pub record IsAnswerTold (tables : Tables) (script : ScriptParts) (id : RoutineId) (shown : Shown) (answer : Answer)
    : Type 0 where
  pub allowed : IsAnswerAllowed tables id shown answer
  pub told : answer ≡ answer_told script id shown

-- the same of a cancel routine's answer
pub record IsCancelTold (tables : Tables) (script : ScriptParts) (id : CancelId) (shown : Shown) (answer : CancelAnswer)
    : Type 0 where
  pub allowed : IsCancelAllowed tables id answer
  pub told : answer ≡ cancel_told tables script id shown

-- these questions are answered as the script tells, where that is allowed
abbrev pub AreTold : Tables → ScriptParts → List Asked → Type 0
AreTold tables script asked =
    AreAnswered (IsPlanTold tables script) (IsAnswerTold tables script) (IsCancelTold tables script) asked
