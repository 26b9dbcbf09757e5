use Rattle.std.proofs.Common.{take}
use Rattle.std.specs.List.{flat_map}
use Rattle.irp_names.specs.Sinks.{Says}
use Rattle.irp_orders.specs.Ends.{packet_lines}
use Rattle.irp_orders.proofs.table.put_packets.Given as goal

-- the lines of those so far stand there
abbrev pub invariant-loop-live : goal.invariant-loop-live
invariant-loop-live l = Says (flat_map (packet_lines l.columns.facts l.columns.labels.now l.named) (take l.live-index l.packets)) l.fn.out l.out
