use Rattle.std.proofs.Common.{◌≡◌, take}
use Rattle.irp_routines.proofs.told.told_drivers.Given as goal

-- the drivers so far
abbrev pub invariant-loop-number : goal.invariant-loop-number
invariant-loop-number g l = l.drivers.items ≡ take l.number (g.A.Ask.tables l.ask).drivers
