-- What stands for each of a list, by its place, grows with the next one.
use Rattle.std.proofs.Common.{◌≡◌, ◌<◌, ◌+◌, ℕ, suc, List, [], ◌∷◌, ◌++◌, length, take, get_or, Option, sym, subst, ap, ◌∙◌, arith}
use Rattle.std.specs.List.{enumerate_from, flat_map}
use Rattle.std.proofs.lemmas.List.{append-nil, length-take-le, take_more}
use Rattle.std.proofs.lemmas.Grind.{flat_map-append}
use Rattle.irp_names.specs.Sinks.{Says}
use Rattle.irp_names.proofs.Saying.{says_both}

enumerate-push : {X : Type 0} (n : ℕ) (xs : List X) (x : X) → enumerate_from n (xs ++ x ∷ []) ≡ enumerate_from n xs ++ (n + length xs, x) ∷ []
enumerate-push n [] x = let none : n ≡ n + 0 = omega arith in ap (λ k. (k, x) ∷ []) none
enumerate-push n (y ∷ xs) x =
    let more : n + 1 + length xs ≡ n + suc (length xs) = omega arith in
    ap (λ rest. (n, y) ∷ rest) (enumerate-push (n + 1) xs x ∙ ap (λ k. enumerate_from (n + 1) xs ++ (k, x) ∷ []) more)

next_pieces : {X : Type 0} (f : ℕ × X → List ℕ) (xs : List X) (place : ℕ) (x : X) → place < length xs
    → flat_map f (enumerate_from 0 (take (place + 1) xs)) ≡ flat_map f (enumerate_from 0 (take place xs)) ++ f (place, get_or xs place x)
next_pieces f xs place x within =
    let own = get_or xs place x in
    let long = length-take-le place xs (omega (arith, within)) in
    let so_far : 0 + length (take place xs) ≡ place = omega (arith, long) in
    ap (λ some. flat_map f (enumerate_from 0 some)) (take_more xs place x within)
    ∙ ap (flat_map f) (enumerate-push 0 (take place xs) own)
    ∙ ap (λ k. flat_map f (enumerate_from 0 (take place xs) ++ (k, own) ∷ [])) so_far
    ∙ flat_map-append f (enumerate_from 0 (take place xs)) ((place, own) ∷ [])
    ∙ ap (λ more. flat_map f (enumerate_from 0 (take place xs)) ++ more) (append-nil (f (place, own)))

-- the pieces of those so far were put, and then the next one's
pub says_next : {X : Type 0} (f : ℕ × X → List ℕ) (xs : List X) (place : ℕ) (x : X) (before between after : Option (List ℕ))
    → place < length xs → Says (flat_map f (enumerate_from 0 (take place xs))) before between
    → Says (f (place, get_or xs place x)) between after
    → Says (flat_map f (enumerate_from 0 (take (place + 1) xs))) before after
says_next f xs place x before between after within so_far next =
    subst (λ text. Says text before after) (sym (next_pieces f xs place x within))
    (says_both (flat_map f (enumerate_from 0 (take place xs))) (f (place, get_or xs place x)) before between after so_far next)

-- the same, where the next one is read first
pub says_item : {X : Type 0} (f : ℕ × X → List ℕ) (xs : List X) (place : ℕ) (x : X) (before between after : Option (List ℕ))
    → place < length xs → x ≡ get_or xs place x → Says (flat_map f (enumerate_from 0 (take place xs))) before between
    → Says (f (place, x)) between after → Says (flat_map f (enumerate_from 0 (take (place + 1) xs))) before after
says_item f xs place x before between after within is so_far next =
    says_next f xs place x before between after within so_far (subst (λ one. Says (f (place, one)) between after) is next)

-- the pieces of those so far were put, and then the next one's, which is read first
pub says_more : {X : Type 0} (f : X → List ℕ) (xs : List X) (place : ℕ) (x : X) (before between after : Option (List ℕ))
    → place < length xs → x ≡ get_or xs place x → Says (flat_map f (take place xs)) before between → Says (f x) between after
    → Says (flat_map f (take (place + 1) xs)) before after
says_more f xs place x before between after within is so_far next =
    let own = get_or xs place x in
    let pieces =
    ap (flat_map f) (take_more xs place x within) ∙ flat_map-append f (take place xs) (own ∷ [])
    ∙ ap (λ more. flat_map f (take place xs) ++ more) (append-nil (f own)) in
    subst (λ text. Says text before after) (sym pieces)
    (says_both (flat_map f (take place xs)) (f own) before between after so_far
    (subst (λ one. Says (f one) between after) is next))
