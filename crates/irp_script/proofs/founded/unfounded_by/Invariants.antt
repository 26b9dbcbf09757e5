-- each reading so far is founded
use Rattle.std.proofs.Common.{◌<◌, ℕ, Option, get_or}
use Rattle.std.specs.Prelude.{IfSome}
use Rattle.irp_script.specs.declared.binding.Reading.{Reading}
use Rattle.irp_script.specs.Labels.{IsFounded}
use Rattle.irp_script.specs.Workers.{knowns_of}
use Rattle.irp_script.proofs.founded.unfounded_by.Given as goal

abbrev pub invariant-loop-reading : goal.invariant-loop-reading
invariant-loop-reading g l = (k : ℕ) (one : Option Reading) → k < l.reading-index → IfSome (get_or l.readings k one) (IsFounded (knowns_of l.workers))
