-- What an exploration answers where there is no next layer.
use Rattle.irp_explore.specs.declared.refusal.LayerRefusal.{LayerRefusal}
use Rattle.irp_explore.specs.declared.refusal.LayerRefusal.TheVariants as layer
use Rattle.irp_explore.specs.declared.refusal.NotExplored.{NotExplored}
use Rattle.irp_explore.specs.declared.refusal.NotExplored.TheVariants.{Memory, States, Orders}

-- the refusal of the same name
abbrev pub passed_on : LayerRefusal → NotExplored
passed_on layer.Memory = Memory
passed_on layer.States = States
passed_on layer.Orders = Orders
