-- The completion routines, the cancel routines and the dispatches so far are added to the store, and answer as the
-- script tells; what was there before still does.
use Rattle.std.proofs.Common.{◌≡◌, List, [], take}
use Rattle.irp_types.specs.declared.answer.CancelAnswer.{CancelAnswer}
use Rattle.irp_routines.specs.Tables.{no_tables}
use Rattle.irp_script_reader.specs.declared.script.CompletionRoutine.{CompletionRoutine}
use Rattle.irp_script.specs.Told.{CancelsAnswer, DispatchesPlan, RoutinesAnswer}
use Rattle.irpx.specs.Running.{and_cancels, and_dispatches, and_routines}
use Rattle.irpx.proofs.running.run_script.Given as goal

abbrev pub invariant-loop-routine : goal.invariant-loop-routine
invariant-loop-routine g l =
    (l.store.tables ≡ and_routines (take l.routine-index l.routines) no_tables)
    × (RoutinesAnswer l.initial.store [] → RoutinesAnswer l.store (take l.routine-index l.routines))
    × (CancelsAnswer l.initial.store [] → CancelsAnswer l.store [])
    × (DispatchesPlan l.initial.store [] → DispatchesPlan l.store [])

abbrev pub invariant-loop-answer : goal.invariant-loop-answer
invariant-loop-answer g l =
    (l.store.tables ≡ and_cancels (take l.answer-index l.answers) l.initial.store.tables)
    × ((told : List CompletionRoutine) → RoutinesAnswer l.initial.store told → RoutinesAnswer l.store told)
    × (CancelsAnswer l.initial.store [] → CancelsAnswer l.store (take l.answer-index l.answers))
    × (DispatchesPlan l.initial.store [] → DispatchesPlan l.store [])

abbrev pub invariant-loop-plan : goal.invariant-loop-plan
invariant-loop-plan g l =
    (l.store.tables ≡ and_dispatches (take l.plan-index l.plans) l.initial.store.tables)
    × ((told : List CompletionRoutine) → RoutinesAnswer l.initial.store told → RoutinesAnswer l.store told)
    × ((told : List CancelAnswer) → CancelsAnswer l.initial.store told → CancelsAnswer l.store told)
    × (DispatchesPlan l.initial.store [] → DispatchesPlan l.store (take l.plan-index l.plans))
