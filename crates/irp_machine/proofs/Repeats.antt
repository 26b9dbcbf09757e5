-- Lists that repeat one item.
use Rattle.std.proofs.Common.{◌≡◌, ℕ, ◌+◌, [], ◌∷◌, ◌++◌, replicate}
use Rattle.std.proofs.lemmas.List.{replicate-append-replicate}

pub replicate_push : {X : Type 0} (n : ℕ) (item : X) → replicate n item ++ item ∷ [] ≡ replicate (n + 1) item
replicate_push n item = replicate-append-replicate n 1 item
