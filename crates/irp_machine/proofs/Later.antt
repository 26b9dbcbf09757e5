-- The rest of a list.
use Rattle.std.proofs.Common.{◌≡◌, ℕ, ◌+◌, ◌<◌, ◌≤◌, zero, suc, List, [], ◌∷◌, drop, length, get_or, refl, ◌∙◌, ap, arith}

next : (n : ℕ) → suc n ≡ n + 1
next n = omega arith

-- the rest begins with the item of its place
drop_suc : {X : Type 0} (items : List X) (k : ℕ) (d : X) → k < length items → drop k items ≡ get_or items k d ∷ drop (suc k) items
drop_suc [] k d low = absurd (omega (arith, low))
drop_suc (first ∷ others) zero d low = refl
drop_suc (first ∷ others) (suc k) d low = drop_suc others k d (omega (arith, low))

pub drop_here : {X : Type 0} (items : List X) (k : ℕ) (d : X) → k < length items → drop k items ≡ get_or items k d ∷ drop (k + 1) items
drop_here items k d low = drop_suc items k d low ∙ ap (λ n. get_or items k d ∷ drop n items) (next k)

-- nothing is left past the end
pub drop_past : {X : Type 0} (items : List X) (k : ℕ) → length items ≤ k → drop k items ≡ []
drop_past [] zero past = refl
drop_past [] (suc k) past = refl
drop_past (first ∷ others) zero past = absurd (omega (arith, past))
drop_past (first ∷ others) (suc k) past = drop_past others k (omega (arith, past))
