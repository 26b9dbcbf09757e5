use Rattle.std.proofs.Common.{map, take}
use Rattle.irp_grammar.specs.Showing.{shown}
use Rattle.irp_grammar.proofs.Placing.{ArePlaced}
use Rattle.irp_grammar.proofs.read.lines_of.Given as goal

-- the lines of the pieces so far are there
abbrev pub invariant-loop-piece : goal.invariant-loop-piece
invariant-loop-piece l = ArePlaced (map shown l.lines.items) l.section (take l.piece-index l.piece-items)
