use Rattle.std.proofs.lemmas.List.Sorted.{IsPermutation-trans}
use Rattle.irp_orders.proofs.found.ranked.Goals as goal

pub returns : goal.returns
returns c =
    IsPermutation-trans c.args.outcomes.items c.sort_by_key.new.self.items c.sort_by_key-2.new.self.items
    c.sort_by_key.ensures.permutation c.sort_by_key-2.ensures.permutation
