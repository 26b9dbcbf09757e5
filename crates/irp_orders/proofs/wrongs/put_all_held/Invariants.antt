use Rattle.std.proofs.Common.{take}
use Rattle.std.specs.List.{enumerate_from, flat_map}
use Rattle.irp_names.specs.Sinks.{Says}
use Rattle.irp_orders.specs.Wrongs.{held_line}
use Rattle.irp_orders.proofs.wrongs.put_all_held.Given as goal

-- the lines of those so far stand there
abbrev pub invariant-loop-number : goal.invariant-loop-number
invariant-loop-number l = Says (flat_map held_line (enumerate_from 0 (take l.number l.locks))) l.fn.out l.out
