use Rattle.std.proofs.Common.{◌≡◌, take}
use Rattle.irp_script.specs.Labels.{marks_apart}
use Rattle.irp_script.proofs.labels.bound_apart.Given as goal

-- the labels are marked that other workers bind in the steps so far
abbrev pub invariant-loop-step : goal.invariant-loop-step
invariant-loop-step l = l.apart.items ≡ marks_apart l.number l.workers (take l.step-index l.steps) l.count
