use Rattle.std.proofs.Common.{◌≡◌, take}
use Rattle.irp_routines.proofs.told.told_rules.Given as goal

-- the rules so far
abbrev pub invariant-loop-number : goal.invariant-loop-number
invariant-loop-number g l = l.rules.items ≡ take l.number (g.A.Ask.tables l.ask).cancel_rules
