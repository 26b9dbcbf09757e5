use Rattle.std.proofs.Common.{◌≡◌, List, None}
use Rattle.irp_plain.specs.declared.parts.After.{After}
use Rattle.irp_machine.specs.Runs.{RunValue}
use Rattle.irp_warnings.specs.Warned.{Plays, last_answer}
use Rattle.irp_warnings.proofs.made.answer_of.Given as goal

-- what the rest makes and tells, all atomic steps do
abbrev pub invariant-loop-part : goal.invariant-loop-part
invariant-loop-part l =
    (behind : List After) (last : RunValue) → Plays l.run l.seat l.place behind last
    → (all : List After) × Plays l.fn.start l.seat l.place all last × (last_answer None all ≡ last_answer l.answer behind)
