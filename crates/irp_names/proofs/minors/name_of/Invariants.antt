use Rattle.std.proofs.Common.{◌≡◌, drop, map}
use Rattle.irp_names.specs.Minors.{name_of}
use Rattle.irp_names.proofs.minors.name_of.Given as goal

abbrev pub invariant-loop-minor : goal.invariant-loop-minor
invariant-loop-minor l =
    name_of l.major l.number (map (λ row. (row.0, row.1, row.2.now)) l.rows) ≡ name_of l.major l.number (map (λ row. (row.0, row.1, row.2.now)) (drop l.minor-index l.rows))
