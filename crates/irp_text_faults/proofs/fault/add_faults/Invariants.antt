use Rattle.std.proofs.Common.{All}
use Rattle.irp_text_faults.specs.Placed.{IsPlaced}
use Rattle.irp_text_faults.proofs.fault.add_faults.Given as goal

-- each fault so far stands in its part, if each before did
abbrev pub invariant-loop-index : goal.invariant-loop-index
invariant-loop-index l =
    All (IsPlaced l.text) l.initial.more.items → All (IsPlaced l.text) l.more.items
