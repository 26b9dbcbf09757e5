-- Lists that are taken from the back, one by one.
use Rattle.std.proofs.Common.{◌≡◌, List, [], ◌∷◌, ◌++◌, length, refl, sym, ap, ◌∙◌, arith}
use Rattle.std.proofs.lemmas.List.{append_assoc}

pub nothing_left : {A : Type 0} (xs : List A) → length xs ≡ 0 → xs ≡ []
nothing_left [] is = refl
nothing_left (x ∷ xs) is = absurd (omega arith)

-- the last one of those in front stands before those behind
pub moved : {A : Type 0} (front rest behind all : List A) (last one : A) → front ≡ rest ++ last ∷ [] → one ≡ last → front ++ behind ≡ all → rest ++ one ∷ behind ≡ all
moved front rest behind all last one is same whole =
    ap (λ x. rest ++ x ∷ behind) same ∙ sym (append_assoc rest (last ∷ []) behind) ∙ ap (λ first. first ++ behind) (sym is) ∙ whole

-- none is in front
pub all_behind : {A : Type 0} (front behind all : List A) → length front ≡ 0 → front ++ behind ≡ all → behind ≡ all
all_behind front behind all none whole = ap (λ first. first ++ behind) (sym (nothing_left front none)) ∙ whole
