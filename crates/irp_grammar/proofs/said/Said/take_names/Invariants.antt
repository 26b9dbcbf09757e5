use Rattle.std.proofs.Common.{◌≡◌, drop, take}
use Rattle.irp_grammar.specs.Lines.{ahead}
use Rattle.irp_grammar.specs.Naming.{with_names}
use Rattle.irp_grammar.specs.Reading.{OnlyGives, given_of}
use Rattle.irp_grammar.proofs.said.Said.take_names.Given as goal

-- so many names are given, and nothing is said
abbrev pub invariant-loop-number : goal.invariant-loop-number
invariant-loop-number l =
    (given_of l.self ≡ with_names l.part 0 (take l.number (ahead l.initial.words)) (given_of l.initial.self))
    × (ahead l.words ≡ drop l.number (ahead l.initial.words)) × OnlyGives l.initial.self l.self
