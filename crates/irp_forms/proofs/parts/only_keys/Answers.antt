use Rattle.std.proofs.Common.{◌≡◌, ◌++◌, ℕ, ◌+◌, Bor, List, length, map, refl, sym, ap, ◌∙◌}
use Rattle.std.specs.Bool.{then_some}
use Rattle.std.specs.Cmp.{unsigned_Decides}
use Rattle.std.proofs.lemmas.List.{length-map}
use Rattle.serde_json.specs.View.{view}
use Rattle.irp_forms.specs.Parts.{has_keys}
use Rattle.irp_forms.proofs.Keys.{other_count, key_lacks, others_too}
use Rattle.irp_forms.proofs.parts.only_keys.Goals as goal
use Rattle.irp_forms.proofs.parts.only_keys.Goals.{then-count_members-keys, else-count_members-keys, then-has_each, else-has_each}

-- the keys that are referred to
abbrev named : List (Bor (List ℕ)) → List (List ℕ)
named keys = map (λ (key : Bor (List ℕ)). key.now) keys

-- as many keys as there are references to keys
as_many : (keys beside : List (Bor (List ℕ))) → length (named keys) + length (named beside) ≡ length keys + length beside
as_many keys beside = rw (length-map keys (λ (key : Bor (List ℕ)). key.now), length-map beside (λ (key : Bor (List ℕ)). key.now)) refl

pub returns : goal.returns
returns c =
    let keys : List (List ℕ) = named c.args.keys.now in
    let beside : List (List ℕ) = named c.args.beside.now in
    let there : c.if-has_each.there ≡ has_keys (keys ++ beside) (view c.args.value.now) = elim c.if-has_each.branch [
      | then-has_each last ↦ elim c.if-count_members-keys.branch [
        | then-count_members-keys first ↦
            last.there-is ∙ last.has_each-there.ensures
            ∙ others_too keys beside (view c.args.value.now)
            (sym c.count_members.ensures ∙ first.if-count_members-keys.true ∙ sym (as_many c.args.keys.now c.args.beside.now))
            (sym first.has_each.ensures ∙ sym first.value-is ∙ last.if-has_each.true)
        | else-count_members-keys first ↦ absurd (first.if-count_members-keys.false ((unsigned_Decides _ _).0 (sym first.value-is ∙ last.if-has_each.true)))
      ]
      | else-has_each last ↦ elim c.if-count_members-keys.branch [
        | then-count_members-keys first ↦
            last.there-is ∙ last.if-has_each.false
            ∙ key_lacks keys beside (view c.args.value.now) (sym first.has_each.ensures ∙ sym first.value-is ∙ last.if-has_each.false)
        | else-count_members-keys first ↦
            last.there-is ∙ last.if-has_each.false
            ∙ other_count keys beside (view c.args.value.now)
            (λ is. first.if-count_members-keys.false (c.count_members.ensures ∙ is ∙ as_many c.args.keys.now c.args.beside.now))
      ]
    ] in
    c.then_some.ensures ∙ ap (λ b. then_some b tt) there
