-- What a recorded call asked was answered as it may be in its session.
use Rattle.std.proofs.Common.{◌≡◌, List, [], ◌∷◌, ◌++◌}
use Rattle.std.specs.List.{All}
use Rattle.std.specs.Prelude.{IfOk, OnErr, Result, Ok, Err}
use Rattle.std.proofs.lemmas.List.Elements.{All-append, All-cons, All-from_recursion, All-nil, All-same, All-weaker}
use Rattle.irp_types.specs.State.{Tables}
use Rattle.irp_types.specs.declared.names.DispatchId.{DispatchId}
use Rattle.irp_types.specs.declared.names.CancelId.{CancelId}
use Rattle.irp_types.specs.declared.routine.RoutineId.{RoutineId}
use Rattle.irp_types.specs.declared.shown.Shown.{Shown}
use Rattle.irp_types.specs.declared.answer.Answer.{Answer}
use Rattle.irp_types.specs.declared.answer.CancelAnswer.{CancelAnswer}
use Rattle.irp_types.specs.declared.answer.Plan.{Plan}
use Rattle.irp_types.specs.declared.asked.Asked.{Asked}
use Rattle.irp_types.specs.declared.asked.Asked.TheVariants.{Dispatch, Completion, Cancel}
use Rattle.irp_types.specs.declared.entry.Entry.{Entry}
use Rattle.irp_routines.specs.Answers.{IsAnswered}
use Rattle.irp_manager.specs.Passing.{ArePassed, PassesPlan, PassesAnswer, PassesCancel}
use Rattle.irp_shared.specs.Answered.{AnswersSo, EachAnswered}

-- what an asker that is held to its own tables passes on, it may answer itself
passed_is_own : (tables : Tables) (own : Type 0) (may_plan : DispatchId → Shown → Plan → Type 0) (may_answer : RoutineId → Shown → Answer → Type 0) (may_cancel : CancelId → Shown → CancelAnswer → Type 0)
    → own → (asked : Asked) → IsAnswered (PassesPlan tables own may_plan) (PassesAnswer tables own may_answer) (PassesCancel tables own may_cancel) asked → IsAnswered may_plan may_answer may_cancel asked
passed_is_own tables own may_plan may_answer may_cancel is (Dispatch id shown plan) passed = passed.given is
passed_is_own tables own may_plan may_answer may_cancel is (Completion id shown answer) passed = passed.given is
passed_is_own tables own may_plan may_answer may_cancel is (Cancel id shown answer) passed = passed.given is

-- a history that grows by an entry whose questions were passed on so is answered as it may be, if it was
pub answered_more : (tables : Tables) (own : Type 0) (may_plan : DispatchId → Shown → Plan → Type 0) (may_answer : RoutineId → Shown → Answer → Type 0) (may_cancel : CancelId → Shown → CancelAnswer → Type 0)
    → (may : Asked → Type 0) (history longer : List Entry) (entry : Entry) → longer ≡ history ++ entry ∷ [] → ArePassed tables own may_plan may_answer may_cancel entry.asked
    → own → AnswersSo may_plan may_answer may_cancel may → EachAnswered may history → EachAnswered may longer
answered_more tables own may_plan may_answer may_cancel may history longer entry grown passed is answers before =
    let P : Asked → Type 0 = IsAnswered (PassesPlan tables own may_plan) (PassesAnswer tables own may_answer) (PassesCancel tables own may_cancel) in
    let Each : Entry → Type 0 = λ (entry : Entry). All (λ (asked : Asked). ∥ may asked ∥₁) entry.asked in
    let here : Each entry =
    All-weaker P (λ (asked : Asked). ∥ may asked ∥₁) (λ asked is_passed. answers asked (passed_is_own tables own may_plan may_answer may_cancel is asked is_passed))
    entry.asked (All-from_recursion P entry.asked passed) in
    All-same Each longer (history ++ entry ∷ []) grown (All-append Each history (entry ∷ []) before (All-cons Each entry [] here (All-nil Each)))

-- what follows of both ends of a call
pub either_way : {T E Q Goal : Type 0} (P : T → Type 0) (result : Result T E) → IfOk result P → OnErr result Q → ((value : T) → P value → Goal) → (Q → Goal) → Goal
either_way P (Ok value) ok err on_ok on_err = on_ok value ok
either_way P (Err error) ok err on_ok on_err = on_err err
