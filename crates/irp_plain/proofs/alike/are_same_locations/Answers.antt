use Rattle.std.proofs.Common.{arith, refl}
use Rattle.irp_plain.proofs.SamePackets.{same_locations}
use Rattle.irp_plain.proofs.alike.are_same_locations.Goals as goal

pub returns : goal.returns
returns c = (
  λ _. same_locations c.args.one.now c.args.other.now (omega arith) (λ k below. c.loop-below.invariant k (omega arith)),
  λ _. refl,
)
