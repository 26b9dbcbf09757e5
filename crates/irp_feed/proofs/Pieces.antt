-- Bytes that were read one piece after another.
use Rattle.std.proofs.Common.{ℕ, List, ◌++◌, Option, Some, None, sym, ap, ◌∙◌, append_assoc}
use Rattle.std.specs.Io.KnownBytes.{Consumes}

pub reads_on : (t u : List ℕ) (old mid new : Option (List ℕ)) → Consumes old mid t → Consumes mid new u → Consumes old new (t ++ u)
reads_on t u None mid new h k = tt
reads_on t u (Some xs) None new h k = absurd h
reads_on t u (Some xs) (Some ys) None h k = absurd k
reads_on t u (Some xs) (Some ys) (Some zs) h k = h ∙ ap (λ s. t ++ s) k ∙ sym (append_assoc t u zs)
