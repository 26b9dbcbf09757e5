-- No step before here hands a reference between workers.
use Rattle.std.proofs.Common.{◌≡◌, ◌<◌, ℕ, get_or, false}
use Rattle.irp_script.specs.Between.{hands_between}
use Rattle.irp_script_reader.specs.declared.act.Step.{Step}
use Rattle.irp_script.proofs.between.hand_between.Given as goal

abbrev pub invariant-loop-place : goal.invariant-loop-place
invariant-loop-place l = (k : ℕ) (step : Step) → k < l.place → hands_between l.workers (get_or l.step-items k step) ≡ false
