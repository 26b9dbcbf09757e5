use Rattle.std.proofs.Common.{take}
use Rattle.std.specs.List.{enumerate_from, flat_map}
use Rattle.irp_names.specs.Sinks.{Says}
use Rattle.irp_orders.specs.Ends.{name_text}
use Rattle.irp_orders.proofs.ends.put_names.Given as goal

-- the lines of those so far stand there
abbrev pub invariant-loop-place : goal.invariant-loop-place
invariant-loop-place l = Says (flat_map (name_text l.live l.named) (enumerate_from 0 (take l.place l.labels))) l.fn.out l.out
