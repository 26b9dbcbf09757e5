-- The lists of a script, and what each takes as its next member. A member's form (S4) is looked at before its rule
-- (S5), then what it names (S6, S7), then the limits (S8).
use Rattle.std.specs.Prelude.{◌&&◌, ◌||◌, length, Bool, is_none, not, nat_lt, Result, Ok}
use Rattle.std.specs.Option.{ok_or}
use Rattle.serde_json.specs.Data.{Data}
use Rattle.irp_forms.specs.Parts.{list_at}
use Rattle.irp_forms.specs.Values.{cancel_answer_at, handler_at, plan_at}
use Rattle.irp_types.specs.Limits.{most_dispatches, most_drivers}
use Rattle.irp_script_reader.specs.Acts.{step_at}
use Rattle.irp_script_reader.specs.Forms.{may_do, may_hang, may_plan, suits_setup}
use Rattle.irp_script_reader.specs.Labels.{label_at, place_among, with_labels}
use Rattle.irp_script_reader.specs.Plans.{is_driver, is_plan_sound, names_known}
use Rattle.irp_script_reader.specs.Routines.{completion_at, counted, obeys_its_rule, one_more}
use Rattle.irp_script_reader.specs.Taking.{◌>>=◌, unless, with_item}
use Rattle.irp_script_reader.specs.declared.{act.Step.Step, lists.Cancels.Cancels, lists.Completions.Completions}
use Rattle.irp_script_reader.specs.declared.{lists.Dispatches.Dispatches, lists.Drivers.Drivers, lists.Steps.Steps}
use Rattle.irp_script_reader.specs.declared.refusal.MemberFault.{MemberFault}
use Rattle.irp_script_reader.specs.declared.refusal.MemberFault.TheVariants.{BadField, RuleBroken, NoRoutine}
use Rattle.irp_script_reader.specs.declared.refusal.MemberFault.TheVariants.{BadDispatch, TooMany}

-- a completion routine, whose behaviours are those of its rule, and of which there is room for one more
unfoldable pub takes_completion : Completions → Data → Result Completions MemberFault
takes_completion list form = do
  routine ← ok_or (completion_at form) BadField
  obeys ← unless (obeys_its_rule routine) RuleBroken
  counts ← ok_or (counted list.counts routine.rule) TooMany
  Ok (record { routines = with_item list.routines routine; counts = counts })

-- what a cancel routine answers, where there is room for one more
unfoldable pub takes_cancel : Cancels → Data → Result Cancels MemberFault
takes_cancel list form = do
  answer ← ok_or (cancel_answer_at form) BadField
  count ← ok_or (one_more list.counts.cancel) TooMany
  Ok (record { answers = with_item list.answers answer; counts = record list.counts { cancel = count } })

-- a plan that the form has, which is sound and names no routine that isn't there
unfoldable pub takes_dispatch : Dispatches → Data → Result Dispatches MemberFault
takes_dispatch list form = do
  plan ← ok_or (plan_at form) BadField
  may ← unless (may_plan list.form plan) BadField
  sound ← unless (is_plan_sound plan) RuleBroken
  known ← unless (names_known list.known plan) NoRoutine
  room ← unless (nat_lt (length list.plans) most_dispatches) TooMany
  Ok (record { form = list.form; known = list.known; plans = with_item list.plans plan })

-- a driver's major function codes and dispatches
unfoldable pub takes_driver : Drivers → Data → Result Drivers MemberFault
takes_driver list form = do
  handlers ← ok_or (list_at handler_at form) BadField
  there ← unless (is_driver list.dispatches handlers) BadDispatch
  room ← unless (nat_lt (length list.tables) most_drivers) TooMany
  Ok (record { dispatches = list.dispatches; tables = with_item list.tables handlers })

-- whether a list may have the step: its seat is there, `setup` may have it, which has no conditions, and the seat may do
-- it, and hang it on what it hangs on
abbrev pub may_have : Steps → Step → Bool
may_have list step =
    nat_lt step.seat list.seats
    && ((not list.in_setup || (suits_setup step.act && is_none step.condition))
    && (may_do list.form list.seats step.seat step.act && may_hang list.form list.steps step.seat step.condition))

-- a step, and the label that it names
unfoldable pub takes_step : Steps → Data → Result Steps MemberFault
takes_step list form = do
  step ← ok_or (step_at (place_among list.labels (label_at form)) form) BadField
  may ← unless (may_have list step) BadField
  labels ← with_labels list.labels (label_at form)
  Ok (record {
    form = list.form;
    seats = list.seats;
    in_setup = list.in_setup;
    labels = labels;
    steps = with_item list.steps step;
  })
