use Rattle.std.proofs.Common.{take}
use Rattle.std.specs.List.{enumerate_from, flat_map}
use Rattle.irp_names.specs.Sinks.{Says}
use Rattle.irp_orders.specs.Wrongs.{untaken_line}
use Rattle.irp_orders.proofs.wrongs.put_all_untaken.Given as goal

-- the lines of those so far stand there
abbrev pub invariant-loop-place : goal.invariant-loop-place
invariant-loop-place l = Says (flat_map untaken_line (enumerate_from 0 (take l.place l.setup))) l.fn.out l.out
