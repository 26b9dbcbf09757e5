use Rattle.std.proofs.Common.{◌≡◌, ℕ, ◌<◌, get_or}
use Rattle.irp_types.specs.declared.answer.Plan.{Plan}
use Rattle.irp_grammar.specs.Saying.{plan_line}
use Rattle.irp_grammar.specs.declared.step_line.PlanLine.{PlanLine}
use Rattle.irp_grammar.proofs.same.are_plans.Given as goal

abbrev pub invariant-loop-place : goal.invariant-loop-place
invariant-loop-place l =
    (k : ℕ) (d : PlanLine) (e : Plan) → k < l.place → get_or l.lines k d ≡ plan_line (get_or l.plans k e)
