use Rattle.std.proofs.Common.{take}
use Rattle.std.specs.List.{flat_map}
use Rattle.irp_names.specs.Sinks.{Says}
use Rattle.irp_orders.specs.Wrongs.{left_line}
use Rattle.irp_orders.proofs.wrongs.put_all_left.Given as goal

-- the lines of those so far stand there
abbrev pub invariant-loop-live : goal.invariant-loop-live
invariant-loop-live l = Says (flat_map (left_line l.labels l.named) (take l.live-index l.packets)) l.fn.out l.out
