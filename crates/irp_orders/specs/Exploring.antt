-- Exploring the orders of a script, and where that is given up.
use Rattle.std.specs.Prelude.{ℕ, ⊤, Bool, not}
use Rattle.irp_explore.specs.Counted.{HasManyOrders}
use Rattle.irp_explore.specs.Nodes.{HasMoreStates, HasOrderOf}
use Rattle.irp_machine.specs.Machine.{place_mark}
use Rattle.irp_machine.specs.Orders.{HasMoreEnds, IsMet}
use Rattle.irp_machine.specs.declared.limits.NotFound.{NotFound}
use Rattle.irp_machine.specs.declared.limits.NotFound.TheVariants as bound
use Rattle.irp_script_reader.specs.declared.script.ScriptParts.{ScriptParts}
use Rattle.irp_orders.specs.declared.asked.Order.{Order}
use Rattle.irp_orders.specs.declared.ending.Ending.{Ending}
use Rattle.irp_orders.specs.declared.ending.Ending.TheVariants.{NoMemory, Met}

-- whether the replies of steps tell outcomes apart
abbrev pub tells : Order → Bool
tells order = not order.by_ends

-- no order of a script that was read has so many atomic steps, with the one that closes it
abbrev pub most_steps : ℕ
most_steps = 1000000

-- the orders of a script meet this bound: so many states or outcomes as may be, so many steps, or too many orders
abbrev pub MeetsBound : ScriptParts → Order → NotFound → Type 0
MeetsBound script order bound.States =
    IsMet script (tells order) (λ moves seats start. HasMoreStates moves seats place_mark start order.states)
MeetsBound script order bound.Outcomes =
    IsMet script (tells order) (λ moves seats start. HasMoreEnds moves seats start order.outcomes)
MeetsBound script order bound.Steps =
    IsMet script (tells order) (λ moves seats start. HasOrderOf moves seats start most_steps)
MeetsBound script order bound.Orders =
    IsMet script (tells order) (λ moves seats start. HasManyOrders moves seats start)
MeetsBound script order bound.Memory = ⊥

-- why the outcomes of a script aren't told: a bound is met, or memory ran out
abbrev pub IsUnexplored : ScriptParts → Order → Ending → Type 0
IsUnexplored script order (Met bound) = MeetsBound script order bound
IsUnexplored script order NoMemory = ⊤
IsUnexplored script order other = ⊥
