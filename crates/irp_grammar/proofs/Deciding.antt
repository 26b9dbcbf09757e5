-- The derived tests of equality of what a script has decide it: each is true exactly where its two values are equal.
use Rattle.std.proofs.Common.{rules, Bool, ◌≡◌, refl}
use Rattle.std.specs.Cmp.Lexicographic.{pointwise}
use Rattle.std.proofs.lemmas.Slice.Eq.{slice_eq-Decides}
use Rattle.std.specs.Bool.{Decides}
use Rattle.std.specs.Cmp.{booleans_Decides, unsigned_Decides}
use Rattle.irp_types.proofs.Deciding.{also, cancel, empty, end, fields, irp, last, option, or}
use Rattle.irp_types.proofs.Deciding.{refusal, rule}
use Rattle.irp_types.proofs.Deciding.{setting, status, variants}
use Rattle.irp_types.specs.contracts.answer.Replacement as a_replacement
use Rattle.irp_types.specs.contracts.answer.ReplacementPartialEq.TheImpl as replacement_eq
use Rattle.irp_types.specs.contracts.answer.CancelAnswer as a_cancel_answer
use Rattle.irp_types.specs.contracts.answer.CancelAnswerPartialEq.TheImpl as cancel_answer_eq
use Rattle.irp_script_reader.specs.contracts.act.Named as what_is_named
use Rattle.irp_script_reader.specs.contracts.act.NamedPartialEq.TheImpl as named_eq
use Rattle.irp_script_reader.specs.contracts.condition.AnswerWordPartialEq.TheImpl as answer_word_eq
use Rattle.irp_script_reader.specs.contracts.condition.ExpectedAnswer as an_expected_answer
use Rattle.irp_script_reader.specs.contracts.condition.ExpectedAnswerPartialEq.TheImpl as expected_answer_eq
use Rattle.irp_script_reader.specs.contracts.condition.Condition as a_condition
use Rattle.irp_script_reader.specs.contracts.condition.ConditionPartialEq.TheImpl as condition_eq
use Rattle.irp_script_reader.specs.contracts.script.Behaviour as a_behaviour
use Rattle.irp_script_reader.specs.contracts.script.BehaviourPartialEq.TheImpl as behaviour_eq
use Rattle.irp_script_reader.specs.contracts.script.CompletionRoutine as a_completion
use Rattle.irp_script_reader.specs.contracts.script.CompletionRoutinePartialEq.TheImpl as completion_eq
use Rattle.irp_script_reader.specs.contracts.script.ScriptForm as a_form
use Rattle.irp_script_reader.specs.contracts.script.ScriptFormPartialEq.TheImpl as form_eq
use Rattle.irp_forms.specs.contracts.step_names.ActKindPartialEq.TheImpl as act_eq
use Rattle.irp_names.specs.contracts.plan_kinds.PlanKindPartialEq.TheImpl as kind_eq
use Rattle.irp_grammar.specs.contracts.step_line.Value as a_value
use Rattle.irp_grammar.specs.contracts.step_line.ValuePartialEq.TheImpl as value_eq
use Rattle.irp_grammar.specs.contracts.step_line.StepLine as a_step
use Rattle.irp_grammar.specs.contracts.step_line.StepLinePartialEq.TheImpl as step_eq
use Rattle.irp_grammar.specs.contracts.step_line.PlanLine as a_plan
use Rattle.irp_grammar.specs.contracts.step_line.PlanLinePartialEq.TheImpl as plan_eq

-- the test is true exactly where its two values are equal
abbrev Tells : {A : Type 0} → (A → A → Bool) → Type 0
Tells {A} E = (one other : A) → Decides (E one other) (one ≡ other)

-- ---- what stands before the steps

replacement : Tells replacement_eq.eq-value.it
replacement = fields a_replacement.struct a_replacement.the_propositions (also status (last unsigned_Decides))

behaviour : Tells behaviour_eq.eq-value.it
behaviour = variants a_behaviour.enum (or empty (or empty (or (last replacement) end)))

pub completion : Tells completion_eq.eq-value.it
completion = fields a_completion.struct a_completion.the_propositions (also rule (also behaviour (last behaviour)))

pub form : Tells form_eq.eq-value.it
form = variants a_form.enum (or empty (or (last unsigned_Decides) (or (last unsigned_Decides) end)))

pub cancel_answer : Tells cancel_answer_eq.eq-value.it
cancel_answer = variants a_cancel_answer.enum (or (last unsigned_Decides) (or empty end))

-- ---- steps

named : Tells named_eq.eq-value.it
named = variants what_is_named.enum (or (last unsigned_Decides) (or (last irp) end))

value : Tells value_eq.eq-value.it
value =
    variants a_value.enum
    (or empty (or empty (or empty (or (last unsigned_Decides) (or (last named) (or (last setting) end))))))

values : Tells (pointwise value_eq.eq-value.it)
values one other = slice_eq-Decides value one other _ refl

act : Tells act_eq.eq-value.it
act one other = search rules

kind : Tells kind_eq.eq-value.it
kind one other = search rules

pub plan : Tells plan_eq.eq-value.it
plan = fields a_plan.struct a_plan.the_propositions (also kind (last values))

answer_word : Tells answer_word_eq.eq-value.it
answer_word one other = search rules

expected_answer : Tells expected_answer_eq.eq-value.it
expected_answer =
    variants an_expected_answer.enum
    (or empty (or (last refusal) (or empty (or (last status) (or empty (or (last (option cancel))
    (or (last booleans_Decides) (or empty (or (last answer_word) end)))))))))

condition : Tells condition_eq.eq-value.it
condition =
    fields a_condition.struct a_condition.the_propositions
    (also unsigned_Decides (also booleans_Decides (last expected_answer)))

pub step : Tells step_eq.eq-value.it
step =
    fields a_step.struct a_step.the_propositions
    (also unsigned_Decides (also act (also values (last (option condition)))))
