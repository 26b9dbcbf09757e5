use Rattle.std.proofs.Common.{◌≡◌, drop}
use Rattle.irp_listing.specs.Outcomes.{outcome_from, outcome_of}
use Rattle.irp_listing.proofs.outcome.outcome_of.Given as goal

-- from here on the rest of the questions settles it
abbrev pub invariant-loop-question : goal.invariant-loop-question
invariant-loop-question l =
    outcome_from l.last (drop l.question-index l.question-items) ≡ outcome_of l.entry.call l.question-items
