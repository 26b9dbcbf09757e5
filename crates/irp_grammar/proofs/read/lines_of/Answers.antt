use Rattle.irp_grammar.specs.Showing.{shown}
use Rattle.std.proofs.Common.{map, arith}
use Rattle.irp_grammar.proofs.Placing.{placed_all}
use Rattle.irp_grammar.proofs.read.lines_of.Goals as goal

pub returns : goal.returns
returns c =
    let loop = c.loop-piece in
    placed_all (map shown loop.lines.items) loop.section c.as_slice-piece-items.result.now c.in_ok-pieces.pieces.items
    loop.piece-index c.args.text.now loop.invariant (omega (arith, c.loop-piece-test.false))
    c.as_slice-piece-items.ensures.value c.in_ok-pieces.ensures
