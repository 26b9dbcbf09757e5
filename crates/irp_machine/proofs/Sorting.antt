-- One driver more.
use Rattle.std.proofs.Common.{◌≡◌, ℕ, ◌+◌, ◌<◌, List, [], ◌∷◌, ◌++◌, take, length, get_or, sym, ap, subst, ◌∙◌, add-one}
use Rattle.std.proofs.Math.Seq.{take-suc}
use Rattle.irp_types.specs.State.{Entrance}
use Rattle.irp_machine.specs.Headers.{AreSorted, IsSorted}

sorted_push : (drivers sorted : List (List Entrance)) (driver one : List Entrance) → AreSorted drivers sorted → IsSorted driver one
    → AreSorted (drivers ++ driver ∷ []) (sorted ++ one ∷ [])
sorted_push [] [] driver one before same = (same, tt)
sorted_push [] (first ∷ sorted) driver one before same = absurd before
sorted_push (first ∷ drivers) [] driver one before same = absurd before
sorted_push (first ∷ drivers) (other ∷ sorted) driver one before same = (before.0, sorted_push drivers sorted driver one before.1 same)

pub sorted_next : (drivers sorted : List (List Entrance)) (k : ℕ) (driver one : List Entrance) → k < length drivers → driver ≡ get_or drivers k driver
    → AreSorted (take k drivers) sorted → IsSorted driver one → AreSorted (take (k + 1) drivers) (sorted ++ one ∷ [])
sorted_next drivers sorted k driver one low is before same =
    rw add-one (subst (λ (front : List (List Entrance)). AreSorted front (sorted ++ one ∷ []))
    (sym (take-suc drivers k driver low ∙ ap (λ (last : List Entrance). take k drivers ++ last ∷ []) (sym is)))
    (sorted_push (take k drivers) sorted driver one before same))
