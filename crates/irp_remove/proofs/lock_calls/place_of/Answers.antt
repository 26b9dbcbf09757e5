use Rattle.std.proofs.Common.{rules}
use Rattle.irp_remove.proofs.Seating.{not_there}
use Rattle.irp_remove.proofs.lock_calls.place_of.Goals as goal

pub returns-clause-none : goal.returns-clause-none
returns-clause-none c = not_there _ _ (λ k d less. c.loop-place.invariant k d (search rules))
