use Rattle.std.proofs.Common.{◌≡◌}
use Rattle.std.specs.List.{range_with_len, filter_map}
use Rattle.irp_routines.specs.Tables.{entrance_of}
use Rattle.irp_routines.proofs.drivers.by_major.Given as goal

-- the pairs of the majors so far
abbrev pub invariant-loop-major : goal.invariant-loop-major
invariant-loop-major l = l.sorted.items ≡ filter_map (entrance_of l.pairs) (range_with_len 0 l.major)
