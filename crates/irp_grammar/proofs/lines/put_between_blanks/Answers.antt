use Rattle.std.proofs.Common.{arith}
use Rattle.irp_grammar.specs.Lines.{between_tabs, pieces, texts}
use Rattle.irp_grammar.proofs.PieceWords.{put_all}
use Rattle.irp_grammar.proofs.lines.put_between_blanks.Goals as goal

pub returns : goal.returns
returns c =
    put_all between_tabs (pieces 32 c.args.text.now) c.as_slice-piece-items.result.now c.in_ok-pieces.pieces.items
    c.loop-piece.piece-index (texts c.args.words.now.items) (texts c.loop-piece.words.items) c.loop-piece.invariant
    (omega (arith, c.loop-piece-test.false)) c.as_slice-piece-items.ensures.value c.in_ok-pieces.ensures
