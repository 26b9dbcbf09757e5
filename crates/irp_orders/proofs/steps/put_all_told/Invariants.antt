use Rattle.std.proofs.Common.{take}
use Rattle.std.specs.List.{flat_map}
use Rattle.irp_names.specs.Sinks.{Says}
use Rattle.irp_orders.specs.Lines.{told_line}
use Rattle.irp_orders.proofs.steps.put_all_told.Given as goal

-- the lines of those so far stand there
abbrev pub invariant-loop-one : goal.invariant-loop-one
invariant-loop-one l = Says (flat_map (told_line l.labels l.steps) (take l.one-index l.told)) l.fn.out l.out
