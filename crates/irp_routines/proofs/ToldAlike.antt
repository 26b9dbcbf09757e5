-- Lists of which one thing is told of each item.
use Rattle.std.proofs.Common.{◌≡◌, ℕ, ◌<◌, List, map, replicate, length, slice_index_or, [], ◌∷◌, zero, suc, IfSome, sym, ◌∙◌, ap, subst}
use Rattle.std.specs.Prelude.{slice_get}
use Rattle.std.proofs.lemmas.List.{length-map, length-replicate, get_or-map, get_or-replicate}

-- where the same is told of each item, it is told of the item at a place
pub told_at : {X Y : Type 0} (tell : X → Y) (items : List X) (count : ℕ) (told : Y) (place : ℕ) (default : X)
    → map tell items ≡ replicate count told → place < count → tell (slice_index_or items place default) ≡ told
told_at {X} {Y} tell items count told place default is within =
    let long : length items ≡ count = sym (length-map items tell) ∙ ap length is ∙ length-replicate count told in
    sym (get_or-map tell items place default told (subst (λ given. place < given) (sym long) within))
    ∙ ap (λ (given : List Y). slice_index_or given place told) is
    ∙ get_or-replicate count place told told within

-- what holds of an item at a place, or of what stands for it where there is none
at_place : {A : Type 0} (P : A → Type 0) (items : List A) (place : ℕ) (found : A) → found ≡ slice_index_or items place found → P found
    → IfSome (slice_get items place) P
at_place P [] place found is holds = tt
at_place P (item ∷ items) zero found is holds = subst P is holds
at_place P (item ∷ items) (suc place) found is holds = at_place P items place found is holds

-- the same of another list, which is this one
pub found_at : {A : Type 0} (P : A → Type 0) {items others : List A} → items ≡ others → (place : ℕ) (found : A)
    → found ≡ slice_index_or items place found → P found → IfSome (slice_get others place) P
found_at P {items} same place found is holds =
    subst (λ list. IfSome (slice_get list place) P) same (at_place P items place found is holds)
