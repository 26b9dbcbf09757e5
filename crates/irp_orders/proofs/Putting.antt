-- Words put one after the other, of which the first are in two parts.
use Rattle.std.proofs.Common.{ℕ, List, ◌++◌, Option, subst}
use Rattle.std.proofs.lemmas.List.{append_assoc}
use Rattle.irp_names.specs.Sinks.{Says}
use Rattle.irp_names.proofs.Saying.{says_both}

pub says_told : (words told rest : List ℕ) (before between after : Option (List ℕ)) → Says (words ++ told) before between
    → Says rest between after → Says (words ++ (told ++ rest)) before after
says_told words told rest before between after first next =
    subst (λ (text : List ℕ). Says text before after) (append_assoc words told rest)
    (says_both (words ++ told) rest before between after first next)
