use Rattle.std.proofs.Common.{rules, ◌≡◌, ◌∷◌, ◌++◌, []}
use Rattle.irp_grammar.specs.Lines.{ahead}
use Rattle.irp_grammar.specs.Reading.{given_of}
use Rattle.irp_grammar.proofs.Giving.{takes_more}
use Rattle.irp_grammar.proofs.members.take_entries.Goals as goal

-- one entry more, whether the line goes on or not
pub returns-then-left-eq0 : goal.returns-then-left-eq0
returns-then-left-eq0 c =
    let put : c.push.new.self.items ≡ c.loop-taken.table.items ++ c.in_ok-entry.entry ∷ [] = search rules in
    takes_more (given_of c.args.said.now).names (ahead c.args.words.now) (ahead c.loop-taken.words) (ahead c.take_entry.new.words)
    c.args.table.now.items c.loop-taken.table.items c.push.new.self.items c.in_ok-entry.entry c.loop-taken.invariant
    c.in_ok-entry.ensures put

pub loop-taken-preserved : goal.loop-taken-preserved
loop-taken-preserved c =
    let put : c.push.new.self.items ≡ c.loop-taken.table.items ++ c.in_ok-entry.entry ∷ [] = search rules in
    takes_more (given_of c.args.said.now).names (ahead c.args.words.now) (ahead c.loop-taken.words) (ahead c.take_entry.new.words)
    c.args.table.now.items c.loop-taken.table.items c.push.new.self.items c.in_ok-entry.entry c.loop-taken.invariant
    c.in_ok-entry.ensures put
