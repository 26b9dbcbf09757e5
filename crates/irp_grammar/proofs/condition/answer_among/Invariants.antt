use Rattle.std.proofs.Common.{◌≡◌, drop, map}
use Rattle.irp_grammar.specs.Heads.{answer_under}
use Rattle.irp_grammar.proofs.condition.answer_among.Given as goal

abbrev pub invariant-loop-row : goal.invariant-loop-row
invariant-loop-row l =
    answer_under l.word (map (λ row. (row.0.now, row.1)) l.rows) ≡ answer_under l.word (map (λ row. (row.0.now, row.1)) (drop l.row-index l.rows))
