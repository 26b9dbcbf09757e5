-- How steps come out: each is a call of the manager or has a word line, or is passed over. Which of the first two a
-- finish of a taken packet is shows when it runs, and so does whether a step with a condition is passed over.
use Rattle.std.specs.Prelude.{ℕ, ◌==◌, ◌%◌, Bool, Option, Some, None, List, map}
use Rattle.std.specs.List.{enumerate_from, filter}
use Rattle.irp_types.specs.declared.names.IrpRef.{IrpRef}
use Rattle.irp_types.specs.Calls.{Call}
use Rattle.irp_types.specs.declared.call.Call.TheVariants.{FinishTaken}
use Rattle.irp_transcript.specs.declared.word_line.Act.{Act}
use Rattle.irp_transcript.specs.declared.word_line.Act.TheVariants as act
use Rattle.irp_script_reader.specs.declared.act.Step.{Step}
use Rattle.irp_script_reader.specs.declared.act.StepAct.{StepAct}
use Rattle.irp_script_reader.specs.declared.condition.Condition.{Condition}
use Rattle.irp_steps.specs.declared.step_kind.StepKind.{StepKind}
use Rattle.irp_steps.specs.declared.step_kind.StepKind.TheVariants.{
  Calls,
  OnLock,
  Hands,
  OnSlot,
  Finishes,
}
use Rattle.irp_steps.specs.StepKinds.{call_of}

-- how a step comes out: it is made; it is a finish that finds no token; or it is passed over
pub data Way : Type 0 where
  Made : Way
  Tokenless : Way
  Passed : Way

-- the way of a step that hangs on this: one without a condition isn't passed over
abbrev pub way_of : Option Condition → Way → Way
way_of None Passed = Made
way_of condition way = way

-- a step, its place among the steps, and how it came out
pub record Outcome : Type 0 where
  pub place : ℕ
  pub step : Step
  pub way : Way

-- the ways, by seats and places
abbrev pub Ways : Type 0
Ways = ℕ → ℕ → Way

abbrev pub outcome : Ways → ℕ × Step → Outcome
outcome ways each =
    record { place = each.0; step = each.1; way = way_of each.1.condition (ways each.1.seat each.0) }

-- of all steps, where those come out in these ways
abbrev pub outcomes : Ways → List Step → List Outcome
outcomes ways steps = map (outcome ways) (enumerate_from 0 steps)

-- the act that a word line tells of
abbrev pub told_act : StepKind → Way → Option Act
told_act kind Passed = None
told_act Calls way = None
told_act (OnLock on) way = Some (act.OnLock on)
told_act (Hands hand) way = Some (act.Hand hand)
told_act (OnSlot on) way = Some (act.OnSlot on)
told_act (Finishes slot status information) Made = None
told_act (Finishes slot status information) Tokenless = Some (act.FinishTaken slot)

-- the packet that stands for each, where a label's packet isn't known before the script runs
abbrev pub any_packet : IrpRef
any_packet = record { slot = 0; use_no = 0 }

-- the call, with that packet in the place of its own, and 0 in the place of a token
abbrev pub nameless_call : StepKind → StepAct → Way → Option Call
nameless_call kind act Passed = None
nameless_call Calls act way = call_of act any_packet
nameless_call (Finishes slot status information) act Made = Some (FinishTaken any_packet 0 status information)
nameless_call other act way = None

-- the steps of the seats whose numbers leave this number when divided by how many workers there are
abbrev pub is_own_step : ℕ → ℕ → Step → Bool
is_own_step number workers step = step.seat % workers == number

-- a worker's own among some steps, with their places
abbrev pub is_own_placed : ℕ → ℕ → ℕ × Step → Bool
is_own_placed number workers each = is_own_step number workers each.1

abbrev pub own_placed : ℕ → ℕ → List Step → List (ℕ × Step)
own_placed number workers steps = filter (is_own_placed number workers) (enumerate_from 0 steps)
