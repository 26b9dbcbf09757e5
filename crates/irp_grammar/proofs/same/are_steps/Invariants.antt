use Rattle.std.proofs.Common.{◌≡◌, ℕ, ◌<◌, get_or}
use Rattle.irp_script_reader.specs.declared.act.Step.{Step}
use Rattle.irp_grammar.specs.Saying.{line_of}
use Rattle.irp_grammar.specs.declared.step_line.StepLine.{StepLine}
use Rattle.irp_grammar.proofs.same.are_steps.Given as goal

abbrev pub invariant-loop-place : goal.invariant-loop-place
invariant-loop-place l =
    (k : ℕ) (d : StepLine) (e : Step) → k < l.place → get_or l.lines k d ≡ line_of (get_or l.steps k e)
