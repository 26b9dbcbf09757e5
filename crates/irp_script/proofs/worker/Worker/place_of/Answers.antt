use Rattle.std.proofs.Common.{rules}
use Rattle.irp_script.specs.Seats.{number_of}
use Rattle.irp_script.proofs.Places.{none_there}
use Rattle.irp_script.proofs.worker.Worker.place_of.Goals as goal

pub returns-clause-none : goal.returns-clause-none
returns-clause-none g c = none_there number_of c.args.self.now.seats.items c.args.number (λ k one less. c.loop-place.invariant k one (search rules))
