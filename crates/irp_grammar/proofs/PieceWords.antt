-- The words of the pieces of a text, one piece after the other.
use Rattle.std.proofs.Common.{◌≡◌, ◌<◌, ◌≤◌, ◌+◌, ℕ, Bor, List, ◌++◌, get_or, length, map, take, ap, sym, ◌∙◌}
use Rattle.std.proofs.lemmas.List.{flat_map_more, take_all, take_more}
use Rattle.std.proofs.lemmas.List.Folds.{flat_map-map}
use Rattle.std.specs.List.{flat_map}

-- what a function gives of each of some pieces, which are borrowed
abbrev pub each : (List ℕ → List (List ℕ)) → List (Bor (List ℕ)) → List (List ℕ)
each f pieces = flat_map (λ (piece : Bor (List ℕ)). f piece.now) pieces

-- behind the words of the pieces so far, those of the next
pub put_more : (f : List ℕ → List (List ℕ)) (pieces : List (Bor (List ℕ))) (i : ℕ) (d : Bor (List ℕ)) (before now after : List (List ℕ)) → i < length pieces → now ≡ before ++ each f (take i pieces) → after ≡ now ++ f (get_or pieces i d).now → after ≡ before ++ each f (take (i + 1) pieces)
put_more f pieces i d before now after below so_far more =
    more ∙ ap (λ words. words ++ f (get_or pieces i d).now) so_far
    ∙ flat_map_more (λ (piece : Bor (List ℕ)). f piece.now) before (take i pieces) (get_or pieces i d)
    ∙ ap (λ some. before ++ each f some) (sym (take_more pieces i d below))

-- the words of all pieces, which these texts are
pub put_all : (f : List ℕ → List (List ℕ)) (texts : List (List ℕ)) (pieces others : List (Bor (List ℕ))) (n : ℕ) (before now : List (List ℕ)) → now ≡ before ++ each f (take n pieces) → length pieces ≤ n → pieces ≡ others → map (λ (piece : Bor (List ℕ)). piece.now) others ≡ texts → now ≡ before ++ flat_map f texts
put_all f texts pieces others n before now so_far whole same are =
    so_far ∙ ap (λ some. before ++ each f some) (take_all n pieces whole ∙ same)
    ∙ ap (λ words. before ++ words) (sym (flat_map-map f (λ (piece : Bor (List ℕ)). piece.now) others))
    ∙ ap (λ some. before ++ flat_map f some) are
