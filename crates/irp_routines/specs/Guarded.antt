-- An answer where it is allowed, and else a fixed one that always is.
use Rattle.std.specs.Prelude.{Bool, true, false, not, if◌then◌else◌, None}
use Rattle.irp_types.specs.Status.{invalid_device_request, is_success}
use Rattle.irp_types.specs.Rules.{is_allowed, is_plan_allowed, is_cancel_allowed, right_mark}
use Rattle.irp_types.specs.declared.routine.Rule.{Rule}
use Rattle.irp_types.specs.declared.routine.Rule.TheVariants.{Watch, Change, Keeper, KeepOnError, Free}
use Rattle.irp_types.specs.declared.routine.CancelRule.{CancelRule}
use Rattle.irp_types.specs.declared.routine.CancelRule.TheVariants.{MustFinish, MustLeave, Either}
use Rattle.irp_types.specs.declared.routine.Known.{Known}
use Rattle.irp_types.specs.declared.shown.Shown.{Shown}
use Rattle.irp_types.specs.declared.answer.Answer.{Answer}
use Rattle.irp_types.specs.declared.answer.CancelAnswer.{CancelAnswer}
use Rattle.irp_types.specs.declared.answer.CancelAnswer.TheVariants.{Finish as CancelFinish, Leave}
use Rattle.irp_types.specs.declared.answer.Plan.{Plan}
use Rattle.irp_types.specs.declared.answer.Plan.TheVariants.{Finish}

-- whether a completion routine keeps the packet where its rule leaves it no choice; it continues where it has one
abbrev pub fixed_keep : Rule → Shown → Bool
fixed_keep Watch shown = false
fixed_keep Change shown = false
fixed_keep Keeper shown = true
fixed_keep KeepOnError shown = not (is_success shown.status)
fixed_keep Free shown = false

-- an answer that the rule of a completion routine always allows
abbrev pub fixed_answer : Rule → Shown → Answer
fixed_answer rule shown =
    record { keep = fixed_keep rule shown; mark = right_mark shown (fixed_keep rule shown); replacement = None }

-- a plan that every dispatch may answer
abbrev pub fixed_plan : Plan
fixed_plan = Finish invalid_device_request 0

-- an answer that the rule of a cancel routine always allows
abbrev pub fixed_cancel : CancelRule → CancelAnswer
fixed_cancel MustFinish = CancelFinish 0
fixed_cancel MustLeave = Leave
fixed_cancel Either = Leave

-- a completion routine's answer where its rule allows it, and else the fixed one
abbrev pub guarded_answer : Rule → Shown → Answer → Answer
guarded_answer rule shown answer = if is_allowed rule shown answer then answer else fixed_answer rule shown

-- a plan where it is allowed to a dispatch that may name these routines, and else the fixed one
abbrev pub guarded_plan : Known → Shown → Plan → Plan
guarded_plan known shown plan = if is_plan_allowed known shown plan then plan else fixed_plan

-- a cancel routine's answer where its rule allows it, and else the fixed one
abbrev pub guarded_cancel : CancelRule → CancelAnswer → CancelAnswer
guarded_cancel rule answer = if is_cancel_allowed rule answer then answer else fixed_cancel rule
