-- Steps of indentation, one after the other.
use Rattle.std.proofs.Common.{◌≡◌, ℕ, zero, suc, List, ◌++◌, sym, ap, ◌∙◌, append_assoc, append-nil}
use Rattle.std.specs.List.{repeat}

-- one more step
pub repeat_more : (steps : ℕ) (step : List ℕ) → repeat steps step ++ step ≡ repeat (suc steps) step
repeat_more zero step = sym (append-nil step)
repeat_more (suc steps) step = append_assoc step (repeat steps step) step ∙ ap (λ given. step ++ given) (repeat_more steps step)
