-- The names of refusals stand between quotation marks as they are.
use Rattle.std.proofs.Common.{◌≡◌, ℕ, List, [], ◌∷◌, ◌++◌, Bool, true, false, cond, Option, Some, sym, ap, refl, ◌∙◌}
use Rattle.std.specs.Prelude.{codes}
use Rattle.std.specs.List.{find, list_all}
use Rattle.std.specs.Str.{bytes_eq}
use Rattle.std.proofs.lemmas.Bool.{and_parts}
use Rattle.std.proofs.lemmas.Option.{none-some, same_Some}
use Rattle.std.proofs.lemmas.Slice.Eq.{bytes_eq-Decides}
use Rattle.json.specs.Print.{escape_byte, quoted}
use Rattle.irp_types.specs.declared.refusal.Refusal.{Refusal}
use Rattle.irp_types.specs.Refusal.{refusal_found, refusal_name, refusals}

found_next : {T : Type 0} (fits : T → Bool) (here : Bool) (x y : T) (rest : Option T) → fits x ≡ true → (rest ≡ Some y → fits y ≡ true)
    → cond here (Some x) rest ≡ Some y → fits y ≡ true
found_next fits true x y rest one more found = sym (ap fits (same_Some x y found)) ∙ one
found_next fits false x y rest one more found = more found

-- where each of these fits, so does one that is found among them
pub found_among : {T : Type 0} (test fits : T → Bool) (xs : List T) (y : T) → list_all fits xs ≡ true → find test xs ≡ Some y → fits y ≡ true
found_among test fits [] y all found = absurd (none-some y found)
found_among test fits (x ∷ xs) y all found =
    let parts = and_parts (fits x) (list_all fits xs) all in
    found_next fits (test x) x y (find test xs) parts.0 (found_among test fits xs y parts.1) found

-- a text between quotation marks is as it stands
abbrev is_plain : List ℕ → Bool
is_plain text = bytes_eq (quoted text) (codes "\"" ++ (text ++ codes "\""))

are_plain : list_all (λ (one : Refusal). is_plain (refusal_name one)) refusals ≡ true
unfolding refusals escape_byte
are_plain = refl

pub refusal_quoted : (one : Refusal) → quoted (refusal_name one) ≡ codes "\"" ++ (refusal_name one ++ codes "\"")
refusal_quoted one =
    (bytes_eq-Decides (quoted (refusal_name one)) (codes "\"" ++ (refusal_name one ++ codes "\""))).0
    (found_among (λ value. bytes_eq (refusal_name one) (refusal_name value)) (λ value. is_plain (refusal_name value)) refusals one are_plain (refusal_found one))
