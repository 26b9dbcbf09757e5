-- What the closures of a script answer.
use Rattle.std.specs.Prelude.{if◌then◌else◌, Option, Some, None}
use Rattle.irp_types.specs.Status.{cancelled, invalid_device_request, is_success}
use Rattle.irp_types.specs.Rules.{right_mark}
use Rattle.irp_types.specs.declared.names.CancelId.{CancelId}
use Rattle.irp_types.specs.declared.routine.CancelRule.{CancelRule}
use Rattle.irp_types.specs.declared.routine.CancelRule.TheVariants.{MustFinish, MustLeave}
use Rattle.irp_types.specs.declared.shown.Shown.{Shown}
use Rattle.irp_types.specs.declared.answer.Answer.{Answer}
use Rattle.irp_types.specs.declared.answer.CancelAnswer.{CancelAnswer}
use Rattle.irp_types.specs.declared.answer.CancelAnswer.TheVariants.{Finish as CancelFinish, Leave}
use Rattle.irp_types.specs.declared.answer.Plan.{Plan}
use Rattle.irp_types.specs.declared.answer.Plan.TheVariants.{
  Finish,
  Hold,
  HoldSlot,
  Skip,
  Forward,
  ForwardPend,
}
use Rattle.irp_types.specs.declared.answer.Replacement.{Replacement}
use Rattle.irp_script_reader.specs.Routines.{keeps}
use Rattle.irp_script_reader.specs.declared.script.Behaviour.{Behaviour}
use Rattle.irp_script_reader.specs.declared.script.Behaviour.TheVariants.{Continue, Keep, Replace}
use Rattle.irp_script_reader.specs.declared.script.CompletionRoutine.{CompletionRoutine}

-- by one behaviour: whether it keeps the packet, by what it replaces, and the mark that any such answer has
abbrev pub replacement_of : Behaviour → Option Replacement
replacement_of Continue = None
replacement_of Keep = None
replacement_of (Replace replacement) = Some replacement

abbrev pub behaves_so : Behaviour → Shown → Answer
behaves_so behaviour shown =
    record {
      keep = keeps behaviour;
      mark = right_mark shown (keeps behaviour);
      replacement = replacement_of behaviour;
    }

-- a completion routine, by the behaviour that is for the status that it is shown
abbrev pub answer_of : CompletionRoutine → Shown → Answer
answer_of routine shown =
    behaves_so (if is_success shown.status then routine.on_ok else routine.on_err) shown

-- a plan that passes down, where a device stands below, and else a finish
abbrev pub passed_down : Plan → Shown → Plan
passed_down plan shown = if shown.has_lower then plan else Finish invalid_device_request 0

-- a plan that holds with a cancel routine: a packet that is cancelled is finished
abbrev pub held : Option CancelId → Shown → Plan
held None shown = Hold None
held (Some routine) shown = if shown.cancel then Finish cancelled 0 else Hold (Some routine)

-- a dispatch with this plan
abbrev pub plan_of : Plan → Shown → Plan
plan_of (Finish status information) shown = Finish status information
plan_of (Hold cancel) shown = held cancel shown
plan_of HoldSlot shown = HoldSlot
plan_of Skip shown = passed_down Skip shown
plan_of (Forward set) shown = passed_down (Forward set) shown
plan_of (ForwardPend set) shown = passed_down (ForwardPend set) shown

-- the rule of a cancel routine that answers this
abbrev pub cancel_rule_of : CancelAnswer → CancelRule
cancel_rule_of (CancelFinish information) = MustFinish
cancel_rule_of Leave = MustLeave
