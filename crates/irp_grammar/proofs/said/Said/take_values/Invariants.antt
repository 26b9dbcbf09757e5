use Rattle.irp_forms.specs.Steps.{keys_of}
use Rattle.irp_grammar.specs.Lines.{ahead}
use Rattle.irp_grammar.specs.Reading.{OnlyGives, given_of}
use Rattle.irp_grammar.specs.Saying.{none}
use Rattle.irp_grammar.specs.Values.{TakeKeys}
use Rattle.irp_grammar.proofs.said.Said.take_values.Given as goal

-- so many keys are taken, and nothing is said
abbrev pub invariant-loop-taken : goal.invariant-loop-taken
invariant-loop-taken l =
    TakeKeys l._taken (keys_of l.act) (ahead l.initial.words) (ahead l.words) none l.values (given_of l.initial.self)
    (given_of l.self)
    × OnlyGives l.initial.self l.self
