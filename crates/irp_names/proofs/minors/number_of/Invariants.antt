use Rattle.std.proofs.Common.{◌≡◌, drop, map}
use Rattle.irp_names.specs.Minors.{number_of}
use Rattle.irp_names.proofs.minors.number_of.Given as goal

abbrev pub invariant-loop-minor : goal.invariant-loop-minor
invariant-loop-minor l =
    number_of l.name (map (λ row. (row.0, row.1, row.2.now)) l.rows) ≡ number_of l.name (map (λ row. (row.0, row.1, row.2.now)) (drop l.minor-index l.rows))
