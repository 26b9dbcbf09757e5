-- Two words are put for one that names a use, and else the word itself.
use Rattle.std.proofs.Common.{◌≡◌, ℕ, List, [], ◌∷◌, ◌++◌, map, string_bytes, Option, IfSome, Bor, true, inl, inr, refl, subst, ap, ◌∙◌}
use Rattle.std.proofs.lemmas.List.{append_assoc}
use Rattle.std.proofs.lemmas.Result.{IfOk-weaker}
use Rattle.irp_view.specs.Joined.{IsJoined, IsPut}
use Rattle.irp_view.proofs.joined.put_word.Goals as goal

pub returns-in_ok-put_whole-in-Some : goal.returns-in_ok-put_whole-in-Some
returns-in_ok-put_whole-in-Some c =
    let old = map string_bytes c.args.words.now.items in
    let slot = c.in-Some.slot.now in
    let use_no = c.in-Some.use_no.now in
    let joined = subst (λ (this : Option (Bor (List ℕ) × Bor (List ℕ))). IfSome this (λ found. (c.args.may_name ≡ true) × IsJoined c.args.word.now found.0.now found.1.now)) c.in-Some.is c.halves_if.ensures.found in
    IfOk-weaker c.put_whole-in-Some.result (λ done. map string_bytes c.put_whole-in-Some.new.words.items ≡ map string_bytes c.put_whole.new.words.items ++ (use_no ∷ []))
    (λ done. (put : List (List ℕ)) × IsPut c.args.may_name c.args.word.now put × (map string_bytes c.put_whole-in-Some.new.words.items ≡ old ++ put))
    (λ done is. (
      slot ∷ use_no ∷ [],
      inl (joined.0, (slot, use_no, joined.1, refl)),
      is ∙ (ap (λ (this : List (List ℕ)). this ++ (use_no ∷ [])) c.in_ok-put_whole-in-Some.ensures ∙ append_assoc old (slot ∷ []) (use_no ∷ [])),
    ))
    c.put_whole-in-Some.ensures

pub returns-in-None : goal.returns-in-None
returns-in-None c =
    let old = map string_bytes c.args.words.now.items in
    IfOk-weaker c.put_whole-in-None.result (λ done. map string_bytes c.put_whole-in-None.new.words.items ≡ old ++ (c.args.word.now ∷ []))
    (λ done. (put : List (List ℕ)) × IsPut c.args.may_name c.args.word.now put × (map string_bytes c.put_whole-in-None.new.words.items ≡ old ++ put))
    (λ done is. (c.args.word.now ∷ [], inr (c.halves_if.ensures.none c.in-None.is, refl), is))
    c.put_whole-in-None.ensures
