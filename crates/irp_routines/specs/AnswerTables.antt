-- What plain tables answer.
use Rattle.std.specs.Prelude.{ℕ, ◌≡◌, ◌<◌, List, if◌then◌else◌, slice_get, Option, Some}
use Rattle.std.specs.Option.{option_map}
use Rattle.irp_types.specs.Status.{is_success}
use Rattle.irp_types.specs.Rules.{count_of_rule, right_mark}
use Rattle.irp_types.specs.State.{Tables, known_of}
use Rattle.irp_types.specs.declared.names.DispatchId.{DispatchId}
use Rattle.irp_types.specs.declared.names.CancelId.{CancelId}
use Rattle.irp_types.specs.declared.routine.RoutineId.{RoutineId}
use Rattle.irp_types.specs.declared.routine.Rule.{Rule}
use Rattle.irp_types.specs.declared.routine.Rule.TheVariants.{Watch, Change, Keeper, KeepOnError, Free}
use Rattle.irp_types.specs.declared.routine.CancelRule.{CancelRule}
use Rattle.irp_types.specs.declared.routine.Known.{Known}
use Rattle.irp_types.specs.declared.shown.Shown.{Shown}
use Rattle.irp_types.specs.declared.answer.Answer.{Answer}
use Rattle.irp_types.specs.declared.answer.CancelAnswer.{CancelAnswer}
use Rattle.irp_types.specs.declared.answer.Plan.{Plan}
use Rattle.irp_routines.specs.Guarded.{fixed_answer, guarded_answer, guarded_plan, guarded_cancel}
use Rattle.irp_routines.specs.declared.behaviour.Behaviour.{Behaviour}
use Rattle.irp_routines.specs.declared.behaviour.Reaction.{Reaction}

-- the reaction that applies to what is shown
abbrev pub reaction_to : Behaviour → Shown → Reaction
reaction_to behaviour shown = if is_success shown.status then behaviour.on_success else behaviour.on_error

-- a reaction as an answer, with the mark that it may have
abbrev pub as_answer : Shown → Reaction → Answer
as_answer shown reaction =
    record { keep = reaction.keep; mark = right_mark shown reaction.keep; replacement = reaction.replacement }

-- what a completion routine of this rule and behaviour answers
abbrev pub behaved : Rule → Shown → Behaviour → Answer
behaved rule shown behaviour = guarded_answer rule shown (as_answer shown (reaction_to behaviour shown))

-- what the completion routine of a rule and number answers, given the behaviours of the routines of rules Change and
-- Free, by number
abbrev pub table_answer : List Behaviour → List Behaviour → Rule → ℕ → Shown → Option Answer
table_answer change free Watch number shown = Some (fixed_answer Watch shown)
table_answer change free Change number shown = option_map (behaved Change shown) (slice_get change number)
table_answer change free Keeper number shown = Some (fixed_answer Keeper shown)
table_answer change free KeepOnError number shown = Some (fixed_answer KeepOnError shown)
table_answer change free Free number shown = option_map (behaved Free shown) (slice_get free number)

-- a completion routine is there, and this is the table's answer
pub record IsTableAnswer (tables : Tables) (change free : List Behaviour) (id : RoutineId) (shown : Shown)
    (answer : Answer) : Type 0 where
  pub there : id.no < count_of_rule tables.counts id.rule
  pub answered : table_answer change free id.rule id.no shown ≡ Some answer

-- a dispatch is there, and its plan in the table, guarded, is this one
pub record IsTablePlan (tables : Tables) (plans : List Plan) (id : DispatchId) (shown : Shown)
    (plan : Plan) : Type 0 where
  pub known : Known
  pub planned : Plan
  pub there : known_of tables id ≡ Some known
  pub listed : slice_get plans id.0 ≡ Some planned
  pub guarded : plan ≡ guarded_plan known shown planned

-- a cancel routine is there, and its answer in the table, guarded, is this one
pub record IsTableCancel (tables : Tables) (answers : List CancelAnswer) (id : CancelId)
    (answer : CancelAnswer) : Type 0 where
  pub rule : CancelRule
  pub given : CancelAnswer
  pub there : slice_get tables.cancel_rules id.0 ≡ Some rule
  pub listed : slice_get answers id.0 ≡ Some given
  pub guarded : answer ≡ guarded_cancel rule given
