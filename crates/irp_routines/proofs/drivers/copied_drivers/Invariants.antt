use Rattle.std.proofs.Common.{◌≡◌, take}
use Rattle.irp_routines.proofs.drivers.copied_drivers.Given as goal

-- the tables of the drivers so far
abbrev pub invariant-loop-driver : goal.invariant-loop-driver
invariant-loop-driver l = l.copy.items ≡ take l.driver-index l.drivers
