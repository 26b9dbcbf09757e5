use Rattle.std.proofs.Common.{◌≡◌, ◌++◌, take}
use Rattle.std.specs.List.{flat_map}
use Rattle.irp_listing.specs.Blocks.{question_lines}
use Rattle.irp_listing.specs.Stacks.{held}
use Rattle.irp_listing.proofs.blocks.put_questions.Given as goal

-- the lines of the questions so far stand there
abbrev pub invariant-loop-question : goal.invariant-loop-question
invariant-loop-question l =
    l.out.items ≡ l.fn.out.items ++ flat_map (question_lines (held l.stacks.above)) (take l.question-index l.questions)
