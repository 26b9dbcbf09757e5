-- What a script tells of the answers of its closures.
use Rattle.std.specs.Prelude.{◌≡◌, ◌==◌, List, filter, slice_get, Some}
use Rattle.std.specs.List.{AllZip}
use Rattle.std.specs.Option.{option_map}
use Rattle.irp_types.specs.declared.answer.Answer.{Answer}
use Rattle.irp_types.specs.declared.answer.CancelAnswer.{CancelAnswer}
use Rattle.irp_types.specs.declared.answer.Plan.{Plan}
use Rattle.irp_types.specs.declared.asked.Asked.{Asked}
use Rattle.irp_types.specs.declared.asked.Asked.TheVariants.{Dispatch, Completion, Cancel}
use Rattle.irp_types.specs.declared.routine.Rule.{Rule}
use Rattle.irp_types.specs.declared.shown.Shown.{Shown}
use Rattle.irp_routines.specs.Behaving.{cancel_may, dispatch_may, routine_may}
use Rattle.irp_routines.specs.Shelves.{of_rule, place_of}
use Rattle.irp_routines.specs.declared.cancel_routine.CancelRoutine.{CancelRoutine}
use Rattle.irp_routines.specs.declared.dispatch.Dispatch.{Dispatch as DispatchRoutine}
use Rattle.irp_routines.specs.declared.routine.Routine.{Routine}
use Rattle.irp_routines.specs.declared.store.Store.{Store}
use Rattle.irp_script_reader.specs.declared.script.CompletionRoutine.{CompletionRoutine}
use Rattle.irp_script_reader.specs.declared.script.ScriptParts.{ScriptParts}
use Rattle.irp_steps.specs.Behaviours.{answer_of, plan_of}

-- ---- questions

-- the completion routines of this rule, in order
abbrev pub routines_of : Rule → List CompletionRoutine → List CompletionRoutine
routines_of rule routines =
    filter (λ (routine : CompletionRoutine). place_of rule == place_of routine.rule) routines

-- what was answered is what the script tells of the closure that was asked, for what it was shown: of the dispatch of
-- that number, of the completion routine of that number among those of its rule, or of the cancel routine of that
-- number. So the script has such a closure
abbrev pub IsTold : ScriptParts → Asked → Type 0
IsTold script (Dispatch id shown plan) =
    option_map (λ (told : Plan). plan_of told shown) (slice_get script.dispatches id.0) ≡ Some plan
IsTold script (Completion id shown answer) =
    option_map (λ (told : CompletionRoutine). answer_of told shown)
    (slice_get (routines_of id.rule script.completions) id.no) ≡ Some answer
IsTold script (Cancel id shown answer) = slice_get script.cancels id.0 ≡ Some answer

-- ---- closures

-- by its own contract a completion routine answers nothing but what is told of it
abbrev pub AnswersAs : {X : Type 0} {F : X → Type 0} {g : _} → Routine X F g → CompletionRoutine → Type 0
AnswersAs routine told =
    (shown : Shown) (answer : Answer) → routine_may routine shown answer → answer ≡ answer_of told shown

-- by its own contract a dispatch plans nothing but what is told of it
abbrev pub PlansAs : {X : Type 0} {F : X → Type 0} {g : _} → DispatchRoutine X F g → Plan → Type 0
PlansAs dispatch told =
    (shown : Shown) (plan : Plan) → dispatch_may dispatch shown plan → plan ≡ plan_of told shown

-- by its own contract a cancel routine answers nothing but what is told of it
abbrev pub CancelsAs : {X : Type 0} {F : X → Type 0} {g : _} → CancelRoutine X F g → CancelAnswer → Type 0
CancelsAs routine told =
    (shown : Shown) (answer : CancelAnswer) → cancel_may routine shown answer → answer ≡ told

-- under each rule a store has as many completion routines as these, and each answers as the one in its place tells
abbrev pub RoutinesAnswer : {X Y Z : Type 0} {F : X → Type 0} {G : Y → Type 0} {H : Z → Type 0} {g : _} {h : _} {i : _}
    → Store X Y Z F G H g h i → List CompletionRoutine → Type 0
RoutinesAnswer store routines =
    (rule : Rule) → AllZip AnswersAs
    (of_rule rule store.watch.items store.change.items store.keeper.items store.keep_on_error.items store.free.items)
    (routines_of rule routines)

-- a store has as many cancel routines as these, and each answers as the one in its place
abbrev pub CancelsAnswer : {X Y Z : Type 0} {F : X → Type 0} {G : Y → Type 0} {H : Z → Type 0} {g : _} {h : _} {i : _}
    → Store X Y Z F G H g h i → List CancelAnswer → Type 0
CancelsAnswer store answers = AllZip CancelsAs store.cancels.items answers

-- a store has as many dispatches as these, and each plans as the one in its place tells
abbrev pub DispatchesPlan : {X Y Z : Type 0} {F : X → Type 0} {G : Y → Type 0} {H : Z → Type 0} {g : _} {h : _} {i : _}
    → Store X Y Z F G H g h i → List Plan → Type 0
DispatchesPlan store plans = AllZip PlansAs store.dispatches.items plans

-- the closures of a store answer as the script tells
abbrev pub AnswersAll : {X Y Z : Type 0} {F : X → Type 0} {G : Y → Type 0} {H : Z → Type 0} {g : _} {h : _} {i : _}
    → Store X Y Z F G H g h i → ScriptParts → Type 0
AnswersAll store script =
    RoutinesAnswer store script.completions × CancelsAnswer store script.cancels
    × DispatchesPlan store script.dispatches
