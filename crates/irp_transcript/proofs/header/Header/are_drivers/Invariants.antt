-- The drivers so far can be drivers.
use Rattle.std.proofs.Common.{take}
use Rattle.std.specs.List.{All}
use Rattle.irp_types.specs.State.{IsDriver}
use Rattle.irp_transcript.specs.Headers.{fixed_of}
use Rattle.irp_transcript.proofs.header.Header.are_drivers.Given as goal

abbrev pub invariant-loop-driver : goal.invariant-loop-driver
invariant-loop-driver l = All (IsDriver (fixed_of l.self).tables) (take l.driver-index l.drivers)
