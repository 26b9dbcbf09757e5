use Rattle.std.proofs.Common.{take}
use Rattle.std.specs.List.{flat_map}
use Rattle.irp_names.specs.Sinks.{Says}
use Rattle.irp_orders.specs.Ends.{holder_text}
use Rattle.irp_orders.proofs.ends.put_all_holders.Given as goal

-- the lines of those so far stand there
abbrev pub invariant-loop-holder : goal.invariant-loop-holder
invariant-loop-holder l = Says (flat_map (holder_text l.words) (take l.holder-index l.holders)) l.fn.out l.out
