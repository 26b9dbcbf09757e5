use Rattle.std.proofs.Common.{◌≡◌, map, take}
use Rattle.irp_condition.specs.declared.value.Value.TheVariants.{Number}
use Rattle.irp_orders.specs.Conditions.{word_of}
use Rattle.irp_orders.proofs.names.status_names.Given as goal

abbrev pub invariant-loop-row : goal.invariant-loop-row
invariant-loop-row l = map word_of l.names.items ≡ map (λ row. (row.1.now, Number row.0)) (take l.row-index l.rows)
