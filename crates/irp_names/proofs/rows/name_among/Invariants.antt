use Rattle.std.proofs.Common.{◌≡◌, drop, map}
use Rattle.irp_names.specs.Rows.{named}
use Rattle.irp_names.proofs.rows.name_among.Given as goal

abbrev pub invariant-loop-row : goal.invariant-loop-row
invariant-loop-row l =
    named (map (λ row. (row.0, row.1.now)) l.rows) l.number ≡ named (map (λ row. (row.0, row.1.now)) (drop l.row-index l.rows)) l.number
