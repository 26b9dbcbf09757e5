-- The keys of an object, of which some stand beside others.
use Rattle.std.proofs.Common.{◌≡◌, ℕ, ◌+◌, ◌==◌, ◌&&◌, ◌++◌, Bool, true, false, List, [], ◌∷◌, length, is_some, refl, sym, ap, ◌∙◌}
use Rattle.std.specs.Cmp.{unsigned_Decides}
use Rattle.std.proofs.lemmas.List.{length-append}
use Rattle.std.proofs.Math.Bool.{and_assoc}
use Rattle.serde_json.specs.Data.{Data}
use Rattle.serde_json.specs.Find.{get}
use Rattle.irp_forms.specs.Parts.{count_members, each_key, has_keys}

each_beside : (keys beside : List (List ℕ)) (form : Data) → each_key (keys ++ beside) form ≡ (each_key keys form && each_key beside form)
each_beside [] beside form = refl
each_beside (key ∷ keys) beside form = ap (λ b. is_some (get key form) && b) (each_beside keys beside form) ∙ sym (and_assoc (is_some (get key form)) (each_key keys form) (each_key beside form))

-- as many members as both have keys, and each key of both
keys_beside : (keys beside : List (List ℕ)) (form : Data)
    → has_keys (keys ++ beside) form ≡ ((count_members form == (length keys + length beside)) && (each_key keys form && each_key beside form))
unfolding has_keys
keys_beside keys beside form =
    ap (λ n. (count_members form == n) && each_key (keys ++ beside) form) (length-append keys beside)
    ∙ ap (λ b. (count_members form == (length keys + length beside)) && b) (each_beside keys beside form)

too_few : (b others : Bool) → (b ≡ true → ⊥) → false ≡ (b && others)
too_few true others few = absurd (few refl)
too_few false others few = refl

none_lacks : (b others : Bool) → false ≡ (b && (false && others))
none_lacks true others = refl
none_lacks false others = refl

-- another number of members than both have keys
pub other_count : (keys beside : List (List ℕ)) (form : Data) → (count_members form ≡ length keys + length beside → ⊥) → false ≡ has_keys (keys ++ beside) form
other_count keys beside form other = too_few _ _ (λ is. other ((unsigned_Decides _ _).0 is)) ∙ sym (keys_beside keys beside form)

-- a key that isn't there
pub key_lacks : (keys beside : List (List ℕ)) (form : Data) → each_key keys form ≡ false → false ≡ has_keys (keys ++ beside) form
key_lacks keys beside form lacks =
    none_lacks (count_members form == (length keys + length beside)) (each_key beside form)
    ∙ ap (λ b. (count_members form == (length keys + length beside)) && (b && each_key beside form)) (sym lacks)
    ∙ sym (keys_beside keys beside form)

-- as many members as both have keys, and each key of the first
pub others_too : (keys beside : List (List ℕ)) (form : Data) → count_members form ≡ length keys + length beside → each_key keys form ≡ true
    → each_key beside form ≡ has_keys (keys ++ beside) form
others_too keys beside form many each =
    ap (λ (z : Bool × Bool). z.0 && (z.1 && each_key beside form)) {x = (true, true)} (λ i. (sym ((unsigned_Decides _ _).1 many) i, sym each i))
    ∙ sym (keys_beside keys beside form)
