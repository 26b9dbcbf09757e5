-- A list that has, place by place, what a function makes of another's items.
use Rattle.std.proofs.Common.{arith, ◌≡◌, ◌<◌, ◌∙◌, ℕ, suc, List, [], ◌∷◌, ap, length, map, get_or, refl, sym}
use Rattle.std.proofs.lemmas.List.{get_or-map, length-map, same_lists}

pub are_mapped : {X Y : Type 0} (f : X → Y) (xs : List X) (ys : List Y) → length ys ≡ length xs
    → ((k : ℕ) (d : Y) (e : X) → k < length xs → get_or ys k d ≡ f (get_or xs k e)) → ys ≡ map f xs
are_mapped f [] ys same at = same_lists ys [] same (λ k d below. absurd (omega (arith, below, same)))
are_mapped f (x ∷ xs) ys same at =
    same_lists ys (map f (x ∷ xs)) (same ∙ sym (length-map (x ∷ xs) f))
    (λ k d below. let there : k < length (x ∷ xs) = omega (arith, below, same) in
    at k d x there ∙ sym (get_or-map f (x ∷ xs) k x d there))

-- two lists of whose items two functions make the same, place by place
pub both_mapped : {X Y Z : Type 0} (f : X → Z) (g : Y → Z) (xs : List X) (ys : List Y) → length xs ≡ length ys
    → ((k : ℕ) (d : X) (e : Y) → k < length xs → f (get_or xs k d) ≡ g (get_or ys k e)) → map f xs ≡ map g ys
both_mapped f g [] [] same at = refl
both_mapped f g [] (y ∷ ys) same at = absurd (omega (arith, same))
both_mapped f g (x ∷ xs) [] same at = absurd (omega (arith, same))
both_mapped f g (x ∷ xs) (y ∷ ys) same at =
    ap (λ z. z ∷ map f xs) (at 0 x y (omega arith))
    ∙ ap (λ zs. g y ∷ zs) (both_mapped f g xs ys (omega (arith, same)) (λ k d e below. at (suc k) d e (omega (arith, below))))

-- and where two functions make other items at some place, they are other lists
pub not_mapped : {X Y Z : Type 0} (f : X → Z) (g : Y → Z) (xs : List X) (ys : List Y) (k : ℕ) (d : X) (e : Y)
    → k < length xs → length xs ≡ length ys → (f (get_or xs k d) ≡ g (get_or ys k e) → ⊥) → map f xs ≡ map g ys → ⊥
not_mapped f g xs ys k d e below same differs are =
    differs (sym (get_or-map f xs k d (f d) below) ∙ ap (λ zs. get_or zs k (f d)) are
    ∙ get_or-map g ys k e (f d) (omega (arith, below, same)))
