use Rattle.std.proofs.Common.{◌≡◌, [], slice_index_or}
use Rattle.std.specs.List.{range_with_len, filter_map}
use Rattle.irp_routines.specs.Tables.{entrance_of}
use Rattle.irp_routines.proofs.told.told_driver.Given as goal

-- the driver's pairs of the majors so far
abbrev pub invariant-loop-major : goal.invariant-loop-major
invariant-loop-major g l =
    l.pairs.items ≡ filter_map (entrance_of (slice_index_or (g.A.Ask.tables l.ask).drivers l.driver.0 [])) (range_with_len 0 l.major)
