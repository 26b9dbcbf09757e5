-- Where an entry of a seat stands among the seat's own.
use Rattle.std.proofs.Common.{◌≡◌, ℕ, zero, suc, ◌+◌, ◌<◌, Bool, true, List, [], ◌∷◌, ◌++◌, length, take, get_or, sym, ap, ◌∙◌, if◌then◌else◌, arith}
use Rattle.std.specs.Prelude.{drop, slice_get, None, ◌==◌}
use Rattle.std.proofs.lemmas.List.{take-append-drop, take_more}
use Rattle.std.proofs.lemmas.List.Elements.{filter-append}
use Rattle.std.proofs.lemmas.Option.{slice_get-get_or}
use Rattle.irp_types.specs.Histories.{own_entries}
use Rattle.irp_types.specs.declared.entry.Entry.{Entry}
use Rattle.irp_types.proofs.LongerLists.{get_front, get_last}

abbrev is_own : ℕ → Entry → Bool
is_own seat entry = entry.seat == seat

-- the entry of this place follows the seat's own before it
own_more : (history : List Entry) (seat place : ℕ) (entry : Entry) → place < length history → (get_or history place entry).seat == seat ≡ true
    → own_entries (take (place + 1) history) seat ≡ own_entries (take place history) seat ++ get_or history place entry ∷ []
own_more history seat place entry within own =
    ap (λ entries. own_entries entries seat) (take_more history place entry within)
    ∙ filter-append (is_own seat) (take place history) (get_or history place entry ∷ [])
    ∙ ap (λ (passes : Bool). own_entries (take place history) seat ++ (if passes then get_or history place entry ∷ [] else [])) own

-- so it stands among the seat's own at the place after them
pub stands_there : (history : List Entry) (seat place index : ℕ) (entry : Entry) → place < length history → (get_or history place entry).seat == seat ≡ true
    → length (own_entries (take place history) seat) ≡ index → slice_get history place ≡ slice_get (own_entries history seat) index
stands_there history seat place index entry within own count =
    let before = own_entries (take place history) seat in
    let after = own_entries (drop (place + 1) history) seat in
    let all : own_entries history seat ≡ (before ++ get_or history place entry ∷ []) ++ after =
    ap (λ entries. own_entries entries seat) (sym (take-append-drop (place + 1) history))
    ∙ filter-append (is_own seat) (take (place + 1) history) (drop (place + 1) history)
    ∙ ap (λ (entries : List Entry). entries ++ after) (own_more history seat place entry within own) in
    let last = get_front (before ++ get_or history place entry ∷ []) after (length before) (get_or history place entry) (get_last before (get_or history place entry)) in
    slice_get-get_or history place entry within
    ∙ sym last
    ∙ ap (λ (at : ℕ). slice_get ((before ++ get_or history place entry ∷ []) ++ after) at) count
    ∙ ap (λ (entries : List Entry). slice_get entries index) (sym all)

-- a place within the entries has one
pub none_past : (entries : List Entry) (index : ℕ) → index < length entries → slice_get entries index ≡ None → ⊥
none_past [] index within none = elim within [ ]
none_past (entry ∷ entries) zero within none = cc
none_past (entry ∷ entries) (suc index) within none = none_past entries index (omega (arith, within)) none
