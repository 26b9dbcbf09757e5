use Rattle.std.proofs.Common.{◌≡◌, ◌++◌, take}
use Rattle.irp_grammar.specs.Lines.{between_tabs, texts}
use Rattle.irp_grammar.proofs.PieceWords.{each}
use Rattle.irp_grammar.proofs.lines.put_between_blanks.Given as goal

-- the words of the pieces so far stand behind those that were there
abbrev pub invariant-loop-piece : goal.invariant-loop-piece
invariant-loop-piece l =
    texts l.words.items ≡ texts l.initial.words.items ++ each between_tabs (take l.piece-index l.piece-items)
