-- Owners of slots, dealt to seats.
use Rattle.std.proofs.Common.{◌≡◌, ◌+◌, All, Bool, List, [], ◌∷◌, map, sym, subst, ap, ◌∙◌, refl, arith}
use Rattle.std.specs.List.{count_by, flat_map}
use Rattle.std.proofs.lemmas.List.{get_or-map, length-map}
use Rattle.std.proofs.lemmas.List.Concat.{flat_map-cons}
use Rattle.std.proofs.lemmas.List.Elements.{All-head, All-tail}
use Rattle.std.proofs.lemmas.List.Sums.{sum_by-append}

-- what holds of each that some tell holds of what each tells
pub all_of_map : {S X : Type 0} (f : S → X) (P : X → Type 0) (xs : List S) (ys : List X) → map f xs ≡ ys → All P ys → All (λ s. P (f s)) xs
all_of_map f P xs ys is each = λ k d lt.
    let told : All P (map f xs) = subst (All P) (sym is) each in
    subst P (get_or-map f xs k d (f d) lt) (told k (f d) (omega (arith, lt, length-map xs f)))

-- nothing is counted where each has nothing
pub none_owned : {S X : Type 0} (test : X → Bool) (piece : S → List X) (xs : List S) → All (λ s. piece s ≡ []) xs → count_by test (flat_map piece xs) ≡ 0
none_owned test piece [] none = refl
none_owned test piece (x ∷ xs) none =
    let both : count_by test (flat_map piece (x ∷ xs)) ≡ count_by test (piece x) + count_by test (flat_map piece xs) =
    ap (count_by test) (flat_map-cons piece x xs) ∙ sum_by-append _ (piece x) (flat_map piece xs) in
    let here : count_by test (piece x) ≡ 0 = ap (count_by test) (All-head (λ s. piece s ≡ []) x xs none) in
    let rest : count_by test (flat_map piece xs) ≡ 0 = none_owned test piece xs (All-tail (λ s. piece s ≡ []) x xs none) in
    omega (arith, both, here, rest)
