use Rattle.std.proofs.Common.{rules}
use Rattle.std.proofs.lemmas.List.Sorted.{IsNonDecreasingBy-from_sort_by_key}
use Rattle.irp_script.specs.Words.{order_of}
use Rattle.irp_script.proofs.words.put_in_order.Goals as goal

pub returns-clause-order : goal.returns-clause-order
returns-clause-order c = IsNonDecreasingBy-from_sort_by_key order_of _ c.in_ok-sort_by_key.ensures.sorted (λ a r q k. search rules)
