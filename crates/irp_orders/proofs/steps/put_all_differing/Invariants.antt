use Rattle.std.proofs.Common.{take}
use Rattle.std.specs.List.{flat_map}
use Rattle.irp_names.specs.Sinks.{Says}
use Rattle.irp_orders.specs.Lines.{differing_line}
use Rattle.irp_orders.proofs.steps.put_all_differing.Given as goal

-- the lines of those so far stand there
abbrev pub invariant-loop-one : goal.invariant-loop-one
invariant-loop-one l = Says (flat_map (differing_line l.columns) (take l.one-index l.told)) l.fn.out l.out
