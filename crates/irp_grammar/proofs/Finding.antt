-- Names and labels that aren't among those that were given so far.
use Rattle.std.proofs.Common.{ℕ, ◌≡◌, ◌≢◌, ◌<◌, ◌∙◌, List, [], Bor, length, map, get_or, ap, sym, subst, Some, None}
use Rattle.std.specs.List.{slice_get}
use Rattle.std.specs.Option.{option_map}
use Rattle.std.proofs.lemmas.List.{get_or-map, length-map}
use Rattle.std.proofs.lemmas.Option.{slice_get-get_or, slice_get-map}
use Rattle.irp_forms.specs.declared.key_parts.Part.{Part}
use Rattle.irp_grammar.specs.Naming.{IsFound, IsNameOf, IsPlace, Naming, naming_of}
use Rattle.irp_grammar.specs.declared.names.Name.{Name}

pub none_found : (names : List Name) (its : Part) (word : List ℕ)
    → ((k : ℕ) (d : Name) → k < length names → ¬ (IsNameOf its word (naming_of (get_or names k d))))
    → IsFound (map naming_of names) its word None
none_found names its word none naming one is =
    let name : Name = record { part = naming.part; text = record { ref_ptr = (0, 0); now = [] }; number = 0; rule = naming.rule } in
    let below = subst (λ (n : ℕ). one.0 < n) (length-map names naming_of) one.1 in
    let same : naming_of (get_or names one.0 name) ≡ naming = sym (get_or-map naming_of names one.0 name naming below) ∙ one.2 in
    none one.0 name below (subst (λ (some : Naming). IsNameOf its word some) (sym same) is)

pub none_placed : (labels : List (Bor (List ℕ))) (word : List ℕ)
    → ((k : ℕ) (d : Bor (List ℕ)) → k < length labels → (get_or labels k d).now ≢ word)
    → IsPlace (map (λ (label : Bor (List ℕ)). label.now) labels) word None
none_placed labels word none one =
    let label : Bor (List ℕ) = record { ref_ptr = (0, 0); now = [] } in
    let below = subst (λ (n : ℕ). one.0 < n) (length-map labels (λ (label : Bor (List ℕ)). label.now)) one.1 in
    let same = sym (get_or-map (λ (label : Bor (List ℕ)). label.now) labels one.0 label word below) ∙ one.2 in
    none one.0 label below same

pub one_placed : (labels : List (Bor (List ℕ))) (word : List ℕ) (place : ℕ) (label : Bor (List ℕ)) → place < length labels
    → label ≡ get_or labels place label → label.now ≡ word
    → IsPlace (map (λ (label : Bor (List ℕ)). label.now) labels) word (Some place)
one_placed labels word place label below is same =
    let text : Bor (List ℕ) → List ℕ = λ label. label.now in
    slice_get-map text labels place ∙ ap (option_map text) (slice_get-get_or labels place label below)
    ∙ ap (λ (one : Bor (List ℕ)). Some (text one)) (sym is) ∙ ap Some same
