use Rattle.std.proofs.Common.{take}
use Rattle.std.specs.List.{flat_map}
use Rattle.irp_names.specs.Sinks.{Says}
use Rattle.irp_orders.specs.Told.{seat_text}
use Rattle.irp_orders.proofs.judging.put_all_seats.Given as goal

-- the seats so far stand there
abbrev pub invariant-loop-seat : goal.invariant-loop-seat
invariant-loop-seat l = Says (flat_map seat_text (take l.seat-index l.path)) l.fn.out l.out
