-- The first items of a list, one more.
use Rattle.std.proofs.Common.{◌≡◌, ℕ, ◌+◌, List, [], ◌∷◌, ◌++◌, take, slice_get, Some, sym, ◌∙◌, ap}
use Rattle.std.proofs.lemmas.List.{take_more}
use Rattle.std.proofs.lemmas.Option.{get_or_from_slice_get, slice_get_within}

-- the first items, with the one at the next place put behind them
pub one_taken : {X : Type 0} (items before after : List X) (place : ℕ) (item : X)
    → slice_get items place ≡ Some item → before ≡ take place items → after ≡ before ++ item ∷ [] → after ≡ take (place + 1) items
one_taken items before after place item is taken put =
    put
    ∙ ap (λ given. given ++ item ∷ []) taken
    ∙ ap (λ last. take place items ++ last ∷ []) (sym (get_or_from_slice_get items place item item is))
    ∙ sym (take_more items place item (slice_get_within items place item is))
