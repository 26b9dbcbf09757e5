use Rattle.std.proofs.Common.{◌≡◌, ◌∙◌, Bor, List, [], ℕ, ap, arith, false, refl, string_bytes, sym, true}
use Rattle.irp_grammar.proofs.Mapped.{both_mapped, not_mapped}
use Rattle.irp_grammar.proofs.same.are_labels.Goals as goal

-- a text that differs
pub returns-then-not-is_text : goal.returns-then-not-is_text
returns-then-not-is_text c =
    let text = c.index-texts-place.result in
    let none : Bor (List ℕ) = record { ref_ptr = (0, 0); now = [] } in (
      λ yes. absurd (let never : ⊥ = cc in never),
      λ are. absurd (not_mapped string_bytes (λ label. label.now) c.args.texts.now c.args.labels.now c.loop-place.place
          text none (omega (arith, c.loop-place-test.true, c.if-labels-texts.false))
          (omega (arith, c.if-labels-texts.false))
          (λ same.
          let is = c.is_text.ensures.1 (c.as_str.ensures.value ∙ ap string_bytes c.index-texts-place.is ∙ same) in
          let no : true ≡ false = sym is ∙ c.if-not-is_text.true in
          let never : ⊥ = cc in never)
          are),
    )

pub returns : goal.returns
returns c = (
  λ _. both_mapped string_bytes (λ label. label.now) c.args.texts.now c.args.labels.now
      (omega (arith, c.if-labels-texts.false))
      (λ k d e below. c.loop-place.invariant k d e (omega (arith, below, c.if-labels-texts.false, c.loop-place-test.false))),
  λ _. refl,
)
