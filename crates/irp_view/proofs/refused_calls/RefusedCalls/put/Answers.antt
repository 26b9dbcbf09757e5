-- As many are kept as may be.
use Rattle.std.proofs.Common.{◌≡◌, ◌∷◌, [], length, arith}
use Rattle.irp_view.specs.RefusedCalls.{most_told}
use Rattle.irp_view.proofs.RefusedCalls.{kept_full}
use Rattle.irp_view.proofs.refused_calls.RefusedCalls.put.Goals as goal

pub returns-else-len-lt-MOST_TOLD-clause-first : goal.returns-else-len-lt-MOST_TOLD-clause-first
returns-else-len-lt-MOST_TOLD-clause-first c = λ few.
    (let full : length c.args.self.now.first.items ≡ most_told = grind (arith, few) in
    kept_full most_told c.args.self.now.first.items ((c.args.place, c.args.refusal) ∷ []) full)
