use Rattle.std.proofs.Common.{arith, refl}
use Rattle.irp_plain.proofs.KeepMaps.{same_places}
use Rattle.irp_plain.proofs.alike.is_same_keep.Goals as goal

pub returns : goal.returns
returns c = (
  λ _. same_places c.args.one.now c.args.other.now c.loop-slot.slot (omega arith) (omega arith)
      (λ slot below. c.loop-slot.invariant slot below),
  λ _. refl,
)
