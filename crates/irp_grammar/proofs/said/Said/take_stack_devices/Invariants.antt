use Rattle.irp_grammar.specs.Lines.{ahead}
use Rattle.irp_grammar.specs.Reading.{members_of}
use Rattle.irp_grammar.proofs.Adding.{AreCreated}
use Rattle.irp_grammar.proofs.said.Said.take_stack_devices.Given as goal

-- so many devices are created
abbrev pub invariant-loop-at : goal.invariant-loop-at
invariant-loop-at l =
    AreCreated l.head.section l.at l.head.seat l.head.condition (ahead l.initial.words) (ahead l.words) l.lock
    (members_of l.initial.self) (members_of l.self)
