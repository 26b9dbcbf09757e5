use Rattle.std.proofs.Common.{◌≡◌, map, take}
use Rattle.irp_types.specs.Refusal.{refusal_name}
use Rattle.irp_condition.specs.declared.value.Value.TheVariants.{Refused}
use Rattle.irp_orders.specs.Conditions.{word_of}
use Rattle.irp_orders.proofs.names.refusal_names.Given as goal

abbrev pub invariant-loop-refusal : goal.invariant-loop-refusal
invariant-loop-refusal l =
    map word_of l.names.items ≡ map (λ refusal. (refusal_name refusal, Refused refusal)) (take l.refusal-index l.refusals)
