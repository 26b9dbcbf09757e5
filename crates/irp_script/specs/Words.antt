-- Word lines: their order, and the steps that they tell of.
use Rattle.std.specs.Prelude.{ℕ, ◌+◌, ◌*◌, ◌^◌, Option, Some, None, List}
use Rattle.std.specs.List.{filter_map}
use Rattle.std.specs.List.Sorted.{IsNonDecreasingBy}
use Rattle.irp_transcript.specs.declared.word_line.Act.{Act}
use Rattle.irp_transcript.specs.declared.word_line.WordLine.{WordLine}
use Rattle.irp_steps.specs.StepKinds.{kind_of}
use Rattle.irp_script.specs.Outcomes.{Outcome, told_act}

-- a line's place in the order: by its seat, and of one seat by its step, which is below 2 ^ 32
abbrev pub order_of : WordLine → ℕ
order_of line = line.seat * 2 ^ 32 + line.step

-- by rising seat, and then by rising step
abbrev pub AreInOrder : List WordLine → Type 0
AreInOrder lines = IsNonDecreasingBy order_of lines

-- a step that has a word line: its seat, its place among the steps, and what it does
pub record WordStep : Type 0 where
  pub seat : ℕ
  pub place : ℕ
  pub act : Act

-- the step that a word line tells of
abbrev pub told_by : WordLine → WordStep
told_by line = record { seat = line.seat; place = line.step; act = line.act }

-- the step of this seat and place, if there is such an act
abbrev pub word_step : ℕ → ℕ → Option Act → Option WordStep
word_step seat place None = None
word_step seat place (Some act) = Some (record { seat = seat; place = place; act = act })

abbrev pub word_step_of : Outcome → Option WordStep
word_step_of out = word_step out.step.seat out.place (told_act (kind_of out.step.act) out.way)

-- the steps that have word lines, in order
abbrev pub word_steps : List Outcome → List WordStep
word_steps outs = filter_map word_step_of outs
