-- Words put one after the other are put as one.
use Rattle.std.proofs.Common.{ℕ, List, ◌++◌, Option, Some, None, ap, ◌∙◌}
use Rattle.std.proofs.lemmas.List.{append_assoc}
use Rattle.irp_names.specs.Sinks.{Says}

pub says_both : (first next : List ℕ) (before between after : Option (List ℕ)) → Says first before between → Says next between after
    → Says (first ++ next) before after
says_both first next before between None h k = tt
says_both first next before None (Some after) h k = absurd k
says_both first next None (Some between) (Some after) h k = absurd h
says_both first next (Some before) (Some between) (Some after) h k =
    k ∙ ap (λ (text : List ℕ). text ++ next) h ∙ append_assoc before first next
