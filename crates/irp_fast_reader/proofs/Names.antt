-- Names that values are found by are plain.
use Rattle.std.proofs.Common.{◌≡◌, ℕ, List, [], ◌∷◌, Bool, true, false, cond, Option, Some, sym, ap, ◌∙◌}
use Rattle.std.specs.List.{find, list_all}
use Rattle.std.proofs.Common.{bytes_eq}
use Rattle.std.proofs.lemmas.Bool.{and_parts}
use Rattle.std.proofs.lemmas.Option.{none-some, same_Some}
use Rattle.irp_forms.specs.Names.{first_named}
use Rattle.irp_fast_reader.proofs.Stands.{are_plain}

found_next : {T : Type 0} (fits : T → Bool) (here : Bool) (x y : T) (rest : Option T) → fits x ≡ true → (rest ≡ Some y → fits y ≡ true)
    → cond here (Some x) rest ≡ Some y → fits y ≡ true
found_next fits true x y rest one more found = sym (ap fits (same_Some x y found)) ∙ one
found_next fits false x y rest one more found = more found

found_among : {T : Type 0} (test fits : T → Bool) (xs : List T) (y : T) → list_all fits xs ≡ true → find test xs ≡ Some y → fits y ≡ true
found_among test fits [] y all found = absurd (none-some y found)
found_among test fits (x ∷ xs) y all found =
    let parts = and_parts (fits x) (list_all fits xs) all in
    found_next fits (test x) x y (find test xs) parts.0 (found_among test fits xs y parts.1) found

-- where each of these values has a plain name, so has one that is found by it
pub found_plain : {T : Type 0} (name : T → List ℕ) (values : List T) (one : T)
    → list_all (λ value. are_plain (name value)) values ≡ true → first_named name values (name one) ≡ Some one
    → are_plain (name one) ≡ true
found_plain name values one plain found =
    found_among (λ value. bytes_eq (name one) (name value)) (λ value. are_plain (name value)) values one plain found
