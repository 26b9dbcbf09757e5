use Rattle.std.proofs.Common.{map, take}
use Rattle.irp_grammar.specs.Reading.{SaySoFar, members_of, those}
use Rattle.irp_grammar.specs.Showing.{shown}
use Rattle.irp_grammar.proofs.said.Said.take_lines.Given as goal

-- those of the lines so far were taken
abbrev pub invariant-loop-line : goal.invariant-loop-line
invariant-loop-line l =
    SaySoFar (those l.in_steps (map shown (take l.line-index l.lines))) (members_of l.initial.self) (members_of l.self)
