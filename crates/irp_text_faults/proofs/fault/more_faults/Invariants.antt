use Rattle.std.proofs.Common.{All}
use Rattle.irp_text_faults.specs.Placed.{IsPlaced}
use Rattle.irp_text_faults.proofs.fault.more_faults.Given as goal

-- each fault so far stands in its part
abbrev pub invariant-loop-list : goal.invariant-loop-list
invariant-loop-list l = All (IsPlaced l.whole.text.now) l.more.items
