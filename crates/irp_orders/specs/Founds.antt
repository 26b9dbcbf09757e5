-- The outcomes that were found.
use Rattle.std.specs.Prelude.{List, map}
use Rattle.irp_machine.specs.declared.outcome.Outcome.{Outcome}
use Rattle.irp_orders.specs.declared.found.Found.{Found}

-- the outcomes of what was found
abbrev pub outcomes_of : List Found → List Outcome
outcomes_of founds = map (λ (found : Found). found.outcome) founds
