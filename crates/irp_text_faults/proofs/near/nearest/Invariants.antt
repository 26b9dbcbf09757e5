use Rattle.std.proofs.Common.{Contains, IfSome}
use Rattle.irp_text_faults.proofs.near.nearest.Given as goal

abbrev pub invariant-loop-name : goal.invariant-loop-name
invariant-loop-name l = IfSome l.meant (Contains l.names)
