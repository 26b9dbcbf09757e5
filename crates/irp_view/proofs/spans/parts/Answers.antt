-- The text is cut at its first dot, and another dot is taken off what is behind it.
use Rattle.std.proofs.Common.{arith, ◌≡◌, ℕ, List, ◌∷◌, ◌++◌, Option, MatchOption, Bor, drop, sym, subst, ap, ◌∙◌}
use Rattle.std.proofs.lemmas.Str.Pattern.{strip_prefix_char}
use Rattle.irp_view.proofs.Cuts.{cut_gives, cut_is, never_whole}
use Rattle.irp_view.proofs.spans.parts.Goals as goal

pub returns-in_err-from-clause-none : goal.returns-in_err-from-clause-none
returns-in_err-from-clause-none c none from to parted =
    never_whole c.args.text.now from to c.split_once.result c.split_once.ensures.cases parted c.in_err-from.was

pub returns-in_err-to-clause-none : goal.returns-in_err-to-clause-none
returns-in_err-to-clause-none c none from to parted =
    let rest_is = (cut_is c.args.text.now from to c.split_once.result (c.in_ok-from.from, c.in_ok-from.rest) c.split_once.ensures.cases parted c.in_ok-from.was).1 in
    subst (λ (this : Option (Bor (List ℕ))). MatchOption this ((rest : List ℕ) → c.in_ok-from.rest.now ≡ 46 ∷ rest → ⊥) (λ x. c.in_ok-from.rest.now ≡ 46 ∷ x.now)) c.in_err-to.was
    (strip_prefix_char 46 c.in_ok-from.rest.now c.strip_prefix.result c.strip_prefix.ensures.cases (omega arith)) to rest_is

pub returns-clause-found : goal.returns-clause-found
returns-clause-found c =
    let gives = cut_gives c.args.text.now c.split_once.result (c.in_ok-from.from, c.in_ok-from.rest) c.split_once.ensures.cases c.in_ok-from.was in
    let rest_is : c.in_ok-from.rest.now ≡ 46 ∷ c.in_ok-to.to.now =
    subst (λ (this : Option (Bor (List ℕ))). MatchOption this ((rest : List ℕ) → c.in_ok-from.rest.now ≡ 46 ∷ rest → ⊥) (λ x. c.in_ok-from.rest.now ≡ 46 ∷ x.now)) c.in_ok-to.was
    (strip_prefix_char 46 c.in_ok-from.rest.now c.strip_prefix.result c.strip_prefix.ensures.cases (omega arith)) in
    (gives.0 ∙ ap (λ (rest : List ℕ). c.in_ok-from.from.now ++ (46 ∷ rest)) rest_is, gives.1)

pub returns-clause-alone : goal.returns-clause-alone
returns-clause-alone c from to parted =
    let are = cut_is c.args.text.now from to c.split_once.result (c.in_ok-from.from, c.in_ok-from.rest) c.split_once.ensures.cases parted c.in_ok-from.was in
    let rest_is : c.in_ok-from.rest.now ≡ 46 ∷ c.in_ok-to.to.now =
    subst (λ (this : Option (Bor (List ℕ))). MatchOption this ((rest : List ℕ) → c.in_ok-from.rest.now ≡ 46 ∷ rest → ⊥) (λ x. c.in_ok-from.rest.now ≡ 46 ∷ x.now)) c.in_ok-to.was
    (strip_prefix_char 46 c.in_ok-from.rest.now c.strip_prefix.result c.strip_prefix.ensures.cases (omega arith)) in
    (are.0, ap (drop 1) (sym rest_is ∙ are.1))
