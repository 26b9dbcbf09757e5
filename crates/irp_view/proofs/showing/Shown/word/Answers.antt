-- A word line stands behind all entries, and nothing behind some.
use Rattle.std.proofs.Common.{◌≡◌, ◌⊎◌, inl, inr, is_some, true, refl, sym, ◌∙◌}
use Rattle.std.proofs.lemmas.Result.{on_ok_weaker}
use Rattle.irp_view.proofs.Gathered.{word_gathered, word_passed}
use Rattle.irp_view.proofs.showing.Shown.word.Goals as goal
use Rattle.irp_view.proofs.showing.Shown.word.Goals.{then-is_some-via-then-is_some, then-is_some-via-else-is_some+then-is_some-2}

pub returns-then-is_some : goal.returns-then-is_some
returns-then-is_some c = λ before sent is.
    (let chosen : (is_some c.args.wanted.choice.only ≡ true) ⊎ (is_some c.args.wanted.span ≡ true) =
    elim c.then-is_some.branch as (λ _. (is_some c.args.wanted.choice.only ≡ true) ⊎ (is_some c.args.wanted.span ≡ true)) [
      | then-is_some-via-then-is_some w ↦ inl (sym c.is_some.ensures ∙ w.if-is_some.true)
      | then-is_some-via-else-is_some+then-is_some-2 w ↦ inr (sym w.is_some-else-is_some.ensures ∙ w.if-is_some-2.true)
    ] in
    word_passed c.args.wanted c.args.self.now _ sent before is c.args.word chosen refl refl refl refl)

pub returns : goal.returns
returns c = λ before sent is.
    on_ok_weaker c.put_word_line.result
    (word_gathered c.args.wanted c.args.self.now _ sent before is c.args.word
    (sym c.is_some.ensures ∙ c.if-is_some.false) (sym c.is_some-else-is_some.ensures ∙ c.if-is_some-2.false) refl refl refl)
    c.put_word_line.ensures
