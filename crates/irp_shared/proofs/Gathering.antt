-- Seats that are taken off the end of a list one by one.
use Rattle.std.proofs.Common.{◌≡◌, ℕ, ◌+◌, List, [], ◌∷◌, ◌++◌, length, ap, ◌∙◌, arith}
use Rattle.std.specs.Prelude.{All, IfNone, Option, Some, None, slice_get, sum_by}
use Rattle.std.proofs.lemmas.List.Elements.{All-append, All-cons, All-nil, All-same}
use Rattle.std.proofs.lemmas.List.Sums.{sum_by-append}
use Rattle.irp_types.specs.declared.entry.Entry.{Entry}
use Rattle.irp_manager.specs.Seats.{Seated}
use Rattle.irp_shared.specs.Closing.{count_of, IsKept}
use Rattle.irp_types.proofs.LongerLists.{get_last, get_front}

-- where no difference was found and the one taken off is kept, all are kept if those left are
pub if_none_on : {X : Type 0} (option : Option X) {P Q : Type 0} → (P → Q) → IfNone option P → IfNone option Q
if_none_on None step holds = step holds
if_none_on (Some value) step holds = holds

pub all_on : (history : List Entry) (all left fewer : List Seated) (seat : Seated) → left ≡ fewer ++ seat ∷ []
    → IsKept history seat → (All (IsKept history) left → All (IsKept history) all) → All (IsKept history) fewer → All (IsKept history) all
all_on history all left fewer seat taken kept holds rest =
    holds (All-same (IsKept history) left (fewer ++ seat ∷ []) taken (All-append (IsKept history) fewer (seat ∷ []) rest (All-cons (IsKept history) seat [] kept (All-nil (IsKept history)))))

-- the counts of those left
pub counts_left : (left fewer : List Seated) (seat : Seated) → left ≡ fewer ++ seat ∷ [] → sum_by count_of left ≡ sum_by count_of fewer + length seat.entries
counts_left left fewer seat taken =
    let one : 0 + length seat.entries ≡ length seat.entries = omega arith in
    ap (sum_by count_of) taken ∙ sum_by-append count_of fewer (seat ∷ []) ∙ ap (λ (count : ℕ). sum_by count_of fewer + count) one

-- those left stand where they stood
pub stand_on : (left fewer : List Seated) (seat : Seated) → left ≡ fewer ++ seat ∷ [] → (place : ℕ) (other : Seated) → slice_get fewer place ≡ Some other → slice_get left place ≡ Some other
stand_on left fewer seat taken place other at = ap (λ (seats : List Seated). slice_get seats place) taken ∙ get_front fewer (seat ∷ []) place other at

-- the one taken off stood last
pub stood_last : (left fewer : List Seated) (seat : Seated) → left ≡ fewer ++ seat ∷ [] → slice_get left (length fewer) ≡ Some seat
stood_last left fewer seat taken = ap (λ (seats : List Seated). slice_get seats (length fewer)) taken ∙ get_last fewer seat
