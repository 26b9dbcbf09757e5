use Rattle.std.proofs.Common.{◌≡◌, map, take}
use Rattle.std.specs.Option.{option_map}
use Rattle.irp_orders.specs.Facts.{seen_of}
use Rattle.irp_orders.proofs.facts.all_seen.Given as goal

abbrev pub invariant-loop-answer : goal.invariant-loop-answer
invariant-loop-answer l = l.seen.items ≡ map (option_map seen_of) (take l.answer-index l.answers)
