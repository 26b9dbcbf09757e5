-- Lemmas on which refusal is passed on.
use Rattle.std.proofs.Common.{◌≡◌, refl}
use Rattle.irp_explore.specs.declared.refusal.LayerRefusal.{LayerRefusal}
use Rattle.irp_explore.specs.declared.refusal.LayerRefusal.TheVariants as layer
use Rattle.irp_explore.specs.declared.refusal.NotExplored.TheVariants.{States, Orders}
use Rattle.irp_explore.specs.Refusals.{passed_on}

pub states_from : (refusal : LayerRefusal) → passed_on refusal ≡ States → refusal ≡ layer.States
states_from layer.Memory same = absurd (cc)
states_from layer.States same = refl
states_from layer.Orders same = absurd (cc)

pub orders_from : (refusal : LayerRefusal) → passed_on refusal ≡ Orders → refusal ≡ layer.Orders
orders_from layer.Memory same = absurd (cc)
orders_from layer.States same = absurd (cc)
orders_from layer.Orders same = refl
