-- A session with one seat: the seat has all entries of the history.
use Rattle.std.proofs.Common.{◌≡◌, suc, ◌+◌, ◌≤◌, Bool, true, false, cond, List, [], ◌∷◌, ◌++◌, length, refl, sym, ap, ◌∙◌, subst, arith, length-append}
use Rattle.std.specs.Prelude.{All, filter, slice_get, sum_by}
use Rattle.std.proofs.lemmas.List.Elements.{All-head}
use Rattle.std.proofs.lemmas.List.Sums.{length-filter, count_by-le-length}
use Rattle.irp_types.specs.Histories.{own_entries}
use Rattle.irp_types.specs.declared.entry.Entry.{Entry}
use Rattle.irp_manager.specs.Seats.{Seated}
use Rattle.irp_shared.specs.Opening.{IsNew, AreNew}
use Rattle.irp_shared.specs.Closing.{IsKept, count_of}

filter_short : {X : Type 0} (p : X → Bool) (xs : List X) → length (filter p xs) ≤ length xs
filter_short p xs = subst (λ count. count ≤ length xs) (sym (length-filter p xs)) (count_by-le-length p xs)

-- a filter that leaves out nothing is the list
filter_whole : {X : Type 0} (p : X → Bool) (xs : List X) → length (filter p xs) ≡ length xs → filter p xs ≡ xs
filter_whole p [] is = refl
filter_whole p (x ∷ xs) is =
    let rest = filter_whole p xs in
    let short = filter_short p xs in
    elim (p x) as (λ passes. length (cond passes (x ∷ filter p xs) (filter p xs)) ≡ suc (length xs) → cond passes (x ∷ filter p xs) (filter p xs) ≡ x ∷ xs) [
      | true ↦ λ same. ap (λ list. x ∷ list) (rest (omega arith))
      | false ↦ λ same. absurd (omega arith)
    ] is

none_left : (rest : List Seated) (seat : Seated) → length (rest ++ seat ∷ []) ≡ 1 → rest ≡ []
none_left [] seat is = refl
none_left (other ∷ rest) seat is = let more = length-append rest (seat ∷ []) in absurd (omega arith)

-- the one seat of a new session is new, and there is no other
pub one_new : (seats rest : List Seated) (seat : Seated) → AreNew 1 seats → seats ≡ rest ++ seat ∷ [] → IsNew 0 seat × (rest ≡ [])
one_new seats rest seat all is =
    let none : rest ≡ [] = none_left rest seat (ap length (sym is) ∙ all.counted) in
    let one : seats ≡ seat ∷ [] = is ∙ ap (λ front. front ++ seat ∷ []) none in
    (all.each 0 seat (ap (λ list. slice_get list 0) one), none)

-- where it is the only one, a seat that kept its own entries has those of the history
pub one_has_all : (history : List Entry) (seats : List Seated) (seat : Seated) → seats ≡ seat ∷ [] → All (IsKept history) seats → sum_by count_of seats ≡ length history → seat.entries ≡ history
one_has_all history seats seat is own counts =
    let kept : own_entries history seat.number ≡ seat.entries = All-head (IsKept history) seat [] (subst (λ list. All (IsKept history) list) is own) in
    let counted : 0 + length seat.entries ≡ length history = ap (sum_by count_of) (sym is) ∙ counts in
    let count : length seat.entries ≡ length history = omega arith in
    sym kept ∙ filter_whole _ history (ap length kept ∙ count)
