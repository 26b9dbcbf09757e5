-- each reading of the workers so far is founded
use Rattle.std.proofs.Common.{◌<◌, ℕ, All, get_or}
use Rattle.std.specs.Prelude.{IfSome}
use Rattle.irp_script.specs.Labels.{IsFounded}
use Rattle.irp_script.specs.Workers.{knowns_of}
use Rattle.irp_script.proofs.founded.unfounded.Given as goal

abbrev pub invariant-loop-worker : goal.invariant-loop-worker
invariant-loop-worker g l = (k : ℕ) (one : _) → k < l.worker-index → All (λ reading. IfSome reading (IsFounded (knowns_of l.workers))) (get_or l.workers k one).known.read
