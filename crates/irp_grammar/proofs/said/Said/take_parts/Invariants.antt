use Rattle.irp_grammar.specs.Lines.{ahead}
use Rattle.irp_grammar.specs.Reading.{OnlyGives, given_of}
use Rattle.irp_grammar.specs.Saying.{none}
use Rattle.irp_grammar.specs.Values.{TakeParts}
use Rattle.irp_grammar.proofs.said.Said.take_parts.Given as goal

-- so many values are taken, and nothing is said
abbrev pub invariant-loop-place : goal.invariant-loop-place
invariant-loop-place l =
    TakeParts l.place l.parts (ahead l.initial.words) (ahead l.words) none l.values (given_of l.initial.self) (given_of l.self)
    × OnlyGives l.initial.self l.self
