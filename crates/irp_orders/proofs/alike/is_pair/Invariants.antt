use Rattle.std.proofs.Common.{ℕ, ◌≢◌, All, take}
use Rattle.irp_orders.proofs.alike.is_pair.Given as goal

abbrev pub invariant-loop-pair : goal.invariant-loop-pair
invariant-loop-pair l =
    All (λ (pair : ℕ × ℕ). (pair.0 ≢ l.one) × (pair.1 ≢ l.other)) (take l.pair-index l.pairs)
