use Rattle.std.proofs.Common.{take}
use Rattle.std.specs.List.{enumerate_from, flat_map}
use Rattle.irp_names.specs.Sinks.{Says}
use Rattle.irp_orders.specs.Ends.{location_above}
use Rattle.irp_orders.proofs.ends.put_all_locations.Given as goal

-- the lines of those so far stand there
abbrev pub invariant-loop-place : goal.invariant-loop-place
invariant-loop-place l = Says (flat_map (location_above l.lowest) (enumerate_from 0 (take l.place l.locations))) l.fn.out l.out
