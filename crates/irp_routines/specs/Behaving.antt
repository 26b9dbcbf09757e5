-- What the code of a closure may answer to what it is shown, by its own contract.
use Rattle.irp_types.specs.declared.shown.Shown.{Shown}
use Rattle.irp_types.specs.declared.answer.Answer.{Answer}
use Rattle.irp_types.specs.declared.answer.CancelAnswer.{CancelAnswer}
use Rattle.irp_types.specs.declared.answer.Plan.{Plan}
use Rattle.irp_routines.specs.declared.routine.Routine.{Routine}
use Rattle.irp_routines.specs.declared.dispatch.Dispatch.{Dispatch}
use Rattle.irp_routines.specs.declared.cancel_routine.CancelRoutine.{CancelRoutine}

-- a completion routine may answer so
abbrev pub routine_may : {X : Type 0} {F : X → Type 0} {g : _} → Routine X F g → Shown → Answer → Type 0
routine_may {g = g} routine shown answer = g.post (routine.run.vtable, routine.run.value) (shown, tt) answer

-- a dispatch may plan so
abbrev pub dispatch_may : {X : Type 0} {F : X → Type 0} {g : _} → Dispatch X F g → Shown → Plan → Type 0
dispatch_may {g = g} dispatch shown plan = g.post (dispatch.run.vtable, dispatch.run.value) (shown, tt) plan

-- a cancel routine may answer so
abbrev pub cancel_may : {X : Type 0} {F : X → Type 0} {g : _} → CancelRoutine X F g → Shown → CancelAnswer → Type 0
cancel_may {g = g} routine shown answer = g.post (routine.run.vtable, routine.run.value) (shown, tt) answer
