use Rattle.std.proofs.Common.{rules}
use Rattle.irp_script.proofs.Places.{none_there}
use Rattle.irp_script.proofs.slot_parties.place_of.Goals as goal

pub returns-clause-none : goal.returns-clause-none
returns-clause-none c = none_there (λ owner. owner.owning.slot) c.args.owners.now c.args.slot (λ k one less. c.loop-place.invariant k one (search rules))
