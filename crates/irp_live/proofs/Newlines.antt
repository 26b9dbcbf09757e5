-- What ends with a newline.
use Rattle.std.proofs.Common.{◌≡◌, ◌≢◌, ℕ, List, [], ◌∷◌, ◌++◌, refl, sym, ap, ◌∙◌}
use Rattle.irp_live.specs.Streams.{IsEndless}

abbrev last_of : ℕ → List ℕ → ℕ
last_of given [] = given
last_of given (one ∷ others) = last_of one others

last_is : (given : ℕ) (others : List ℕ) (last : ℕ) → last_of given (others ++ last ∷ []) ≡ last
last_is given [] last = refl
last_is given (one ∷ others) last = last_is one others last

-- what ends with another byte ends with no newline
pub other_ends : (text others : List ℕ) (last : ℕ) → text ≡ others ++ last ∷ [] → last ≢ 10 → IsEndless text
other_ends text others last is other front same =
    other (sym (last_is 0 others last) ∙ ap (last_of 0) (sym is ∙ same) ∙ last_is 0 front 10)
