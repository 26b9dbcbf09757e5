-- What plain tables answer is allowed.
use Rattle.std.specs.Prelude.{ℕ, ◌≡◌, true, List, Option, Some, None}
use Rattle.std.specs.Option.{option_map}
use Rattle.std.proofs.Common.{subst, sym}
use Rattle.std.proofs.lemmas.Option.{none-some}
use Rattle.irp_types.specs.Allowed.{IsAnswerAllowed, IsPlanAllowed, IsCancelAllowed}
use Rattle.irp_types.specs.Rules.{is_allowed, is_plan_allowed, is_cancel_allowed}
use Rattle.irp_types.specs.State.{Tables}
use Rattle.irp_types.specs.declared.names.DispatchId.{DispatchId}
use Rattle.irp_types.specs.declared.names.CancelId.{CancelId}
use Rattle.irp_types.specs.declared.routine.RoutineId.{RoutineId}
use Rattle.irp_types.specs.declared.routine.Rule.{Rule}
use Rattle.irp_types.specs.declared.routine.Rule.TheVariants.{Watch, Change, Keeper, KeepOnError, Free}
use Rattle.irp_types.specs.declared.shown.Shown.{Shown}
use Rattle.irp_types.specs.declared.answer.Answer.{Answer}
use Rattle.irp_types.specs.declared.answer.CancelAnswer.{CancelAnswer}
use Rattle.irp_types.specs.declared.answer.Plan.{Plan}
use Rattle.irp_routines.specs.Guarded.{fixed_answer}
use Rattle.irp_routines.specs.GuardedFacts.{fixed_allowed, guarded_allowed, guarded_plan_allowed}
use Rattle.irp_routines.specs.GuardedFacts.{guarded_cancel_allowed}
use Rattle.irp_routines.specs.AnswerTables.{reaction_to, as_answer, behaved, table_answer, IsTableAnswer, IsTablePlan}
use Rattle.irp_routines.specs.AnswerTables.{IsTableCancel}
use Rattle.irp_routines.specs.declared.behaviour.Behaviour.{Behaviour}

-- what is true of one answer is true of the same
some_allowed : (rule : Rule) (shown : Shown) (given answer : Answer) → is_allowed rule shown given ≡ true
    → Some given ≡ Some answer → is_allowed rule shown answer ≡ true
some_allowed rule shown given answer allowed is =
    let same : given ≡ answer = cc in
    subst (λ each. is_allowed rule shown each ≡ true) same allowed

behaved_allowed : (rule : Rule) (shown : Shown) (found : Option Behaviour) (answer : Answer)
    → option_map (behaved rule shown) found ≡ Some answer → is_allowed rule shown answer ≡ true
behaved_allowed rule shown None answer is = absurd (none-some answer is)
behaved_allowed rule shown (Some behaviour) answer is =
    some_allowed rule shown (behaved rule shown behaviour) answer
    (guarded_allowed rule shown (as_answer shown (reaction_to behaviour shown))) is

allowed_of : (change free : List Behaviour) (rule : Rule) (number : ℕ) (shown : Shown) (answer : Answer)
    → table_answer change free rule number shown ≡ Some answer → is_allowed rule shown answer ≡ true
allowed_of change free Watch number shown answer is =
    some_allowed Watch shown (fixed_answer Watch shown) answer (fixed_allowed Watch shown) is
allowed_of change free Change number shown answer is = behaved_allowed Change shown _ answer is
allowed_of change free Keeper number shown answer is =
    some_allowed Keeper shown (fixed_answer Keeper shown) answer (fixed_allowed Keeper shown) is
allowed_of change free KeepOnError number shown answer is =
    some_allowed KeepOnError shown (fixed_answer KeepOnError shown) answer (fixed_allowed KeepOnError shown) is
allowed_of change free Free number shown answer is = behaved_allowed Free shown _ answer is

pub table_answer_allowed : (tables : Tables) (change free : List Behaviour) (id : RoutineId) (shown : Shown)
    (answer : Answer)
    → IsTableAnswer tables change free id shown answer → IsAnswerAllowed tables id shown answer
table_answer_allowed tables change free id shown answer is =
    record { there = is.there; allowed = allowed_of change free id.rule id.no shown answer is.answered }

pub table_plan_allowed : (tables : Tables) (plans : List Plan) (id : DispatchId) (shown : Shown) (plan : Plan)
    → IsTablePlan tables plans id shown plan → IsPlanAllowed tables id shown plan
table_plan_allowed tables plans id shown plan is = record {
  known = is.known;
  there = is.there;
  allowed =
      subst (λ each. is_plan_allowed is.known shown each ≡ true) (sym is.guarded)
      (guarded_plan_allowed is.known shown is.planned);
}

pub table_cancel_allowed : (tables : Tables) (answers : List CancelAnswer) (id : CancelId) (answer : CancelAnswer)
    → IsTableCancel tables answers id answer → IsCancelAllowed tables id answer
table_cancel_allowed tables answers id answer is = record {
  rule = is.rule;
  there = is.there;
  allowed =
      subst (λ each. is_cancel_allowed is.rule each ≡ true) (sym is.guarded) (guarded_cancel_allowed is.rule is.given);
}
