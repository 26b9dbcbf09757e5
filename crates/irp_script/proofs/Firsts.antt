-- The first item that passes a test.
use Rattle.std.proofs.Common.{◌≡◌, ℕ, ◌<◌, List, [], ◌∷◌, length, get_or, Bool, true, false, Some, None, position, refl, arith}
use Rattle.std.specs.List.{position_or_len}
use Rattle.std.proofs.lemmas.List.Sums.{position_or_len_is}
use Rattle.std.proofs.lemmas.Bool.{lt-ltb, le-ltb}

at_place : {X : Type 0} (test : X → Bool) (items : List X) (i : ℕ) → i < length items → position_or_len test items ≡ i
    → Some i ≡ position test items
at_place test items i within is = rw (is, lt-ltb i (length items) within) refl

at_end : {X : Type 0} (test : X → Bool) (items : List X) → position_or_len test items ≡ length items → None ≡ position test items
at_end test items is = rw (is, le-ltb (length items) (length items) (omega arith)) refl

pub first_at : {X : Type 0} (test : X → Bool) (items : List X) (i : ℕ) (d : X) → i < length items
    → ((k : ℕ) (e : X) → k < i → test (get_or items k e) ≡ false) → test (get_or items i d) ≡ true
    → Some i ≡ position test items
first_at test items i d within before there =
    at_place test items i within
    (position_or_len_is test items i d (omega arith) (λ k less. before k d less) (λ inside. there))

pub none_passes : {X : Type 0} (test : X → Bool) (items : List X)
    → ((k : ℕ) (e : X) → k < length items → test (get_or items k e) ≡ false)
    → None ≡ position test items
none_passes test [] none = refl
none_passes test (first ∷ others) none =
    at_end test (first ∷ others)
    (position_or_len_is test (first ∷ others) (length (first ∷ others)) first (omega arith) (λ k less. none k first less)
    (λ inside. absurd (omega arith)))
