use Rattle.std.proofs.Common.{◌≡◌, map, take}
use Rattle.irp_steps.specs.Behaviours.{cancel_rule_of}
use Rattle.irp_machine.proofs.header.rules_of.Given as goal

abbrev pub invariant-loop-answer : goal.invariant-loop-answer
invariant-loop-answer l = l.rules.items ≡ map cancel_rule_of (take l.answer-index l.answers)
