-- What tells two outcomes apart, and why an exploration was given up.
use Rattle.std.specs.Prelude.{Bool, true, false}
use Rattle.irp_explore.specs.declared.refusal.NotExplored.{NotExplored}
use Rattle.irp_explore.specs.declared.refusal.NotExplored.TheVariants as explored
use Rattle.irp_machine.specs.declared.limits.Compared.{Compared}
use Rattle.irp_machine.specs.declared.limits.Compared.TheVariants.{Replies, Ends}
use Rattle.irp_machine.specs.declared.limits.NotFound.{NotFound}
use Rattle.irp_machine.specs.declared.limits.NotFound.TheVariants.{Memory, States, Steps, Orders}

-- whether replies are kept
abbrev pub tells_replies : Compared → Bool
tells_replies Replies = true
tells_replies Ends = false

-- an exploration was given up
abbrev pub not_explored : NotExplored → NotFound
not_explored explored.Memory = Memory
not_explored explored.States = States
not_explored explored.Steps = Steps
not_explored explored.Orders = Orders
