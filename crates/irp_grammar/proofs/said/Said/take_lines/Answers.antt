use Rattle.std.proofs.Common.{◌∙◌, [], ◌∷◌, ◌++◌, List, ap, arith, map, subst, sym, take}
use Rattle.std.proofs.lemmas.List.{map-append, take_more}
use Rattle.irp_grammar.specs.Reading as reading
use Rattle.irp_grammar.specs.Reading.{SaySoFar, members_of, those}
use Rattle.irp_grammar.specs.Showing.{shown}
use Rattle.irp_grammar.specs.declared.read.Line.{Line}
use Rattle.irp_grammar.proofs.Taking.{takes_next}
use Rattle.irp_grammar.proofs.said.Said.take_lines.Goals as goal

-- one more line
pub loop-line-preserved : goal.loop-line-preserved
loop-line-preserved c =
    let lines = c.args.lines.now in
    let place = c.loop-line.line-index in
    let line = c.line-item.result in
    let before = take place lines in
    let all =
    ap (map shown) (take_more lines place line (omega (arith, c.loop-line-test.true))
    ∙ ap (λ (one : Line). before ++ one ∷ []) (sym c.line-item.is))
    ∙ map-append shown before (line ∷ []) in
    let old = members_of c.args.self.now in
    let new = members_of c.take_those.new.self in
    subst (λ (some : List reading.Line). SaySoFar (those c.args.in_steps some) old new) (sym all)
    (takes_next c.args.in_steps (map shown before) (shown line) old (members_of c.loop-line.self) new
    c.loop-line.invariant c.in_ok-take_those.ensures)
