-- Seats by their numbers.
use Rattle.std.proofs.Common.{◌≡◌, ℕ, ◌+◌, List, [], ◌∷◌, ◌++◌, length, sym, ap, ◌∙◌, subst, inl, inr, length-append}
use Rattle.std.specs.Prelude.{slice_get}
use Rattle.irp_types.proofs.LongerLists.{front_or_last}
use Rattle.irp_manager.specs.Seats.{Seated}
use Rattle.irp_shared.specs.Opening.{IsNew, AreNew}

-- one new seat more
pub are_new_more : (seats more : List Seated) (seat : Seated) → AreNew (length seats) seats → more ≡ seats ++ seat ∷ [] → IsNew (length seats) seat → AreNew (length seats + 1) more
are_new_more seats more seat all is new = record {
  counted = ap length is ∙ length-append seats (seat ∷ []);
  each = λ number other at.
      elim (front_or_last seats seat number other (ap (λ (list : List Seated). slice_get list number) (sym is) ∙ at)) [
        | inl before ↦ all.each number other before.1
        | inr last ↦ subst (λ (given : ℕ × Seated). IsNew given.0 given.1) (λ i. (sym last.0 i, last.1 i)) new
      ];
}
