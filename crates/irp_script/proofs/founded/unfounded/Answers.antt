use Rattle.std.proofs.Common.{rules}
use Rattle.irp_script.specs.Workers.{knowns_of}
use Rattle.irp_script.proofs.Readings.{all_founded}
use Rattle.irp_script.proofs.founded.unfounded.Goals as goal

pub returns : goal.returns
returns g c = all_founded (λ worker. worker.known) c.args.workers.now (knowns_of c.args.workers.now)
    (λ k one lt. c.loop-worker.invariant k one (search rules))
