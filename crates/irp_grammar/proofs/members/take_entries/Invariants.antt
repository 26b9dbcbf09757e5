use Rattle.irp_grammar.specs.Lines.{ahead}
use Rattle.irp_grammar.specs.Reading.{given_of}
use Rattle.irp_grammar.specs.Routines.{TakesMore}
use Rattle.irp_grammar.proofs.members.take_entries.Given as goal

-- entries are taken so far
abbrev pub invariant-loop-taken : goal.invariant-loop-taken
invariant-loop-taken l =
    TakesMore (given_of l.said).names (ahead l.initial.words) (ahead l.words) l.initial.table.items l.table.items
