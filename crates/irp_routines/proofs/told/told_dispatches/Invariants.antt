use Rattle.std.proofs.Common.{◌≡◌, take}
use Rattle.irp_routines.proofs.told.told_dispatches.Given as goal

-- what is told of the dispatches so far
abbrev pub invariant-loop-number : goal.invariant-loop-number
invariant-loop-number g l = l.dispatches.items ≡ take l.number (g.A.Ask.tables l.ask).dispatches
