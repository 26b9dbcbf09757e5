use Rattle.std.proofs.Common.{inl, inr, List, ℕ, subst, sym}
use Rattle.irp_words.specs.Telling.{Fails, Obeys}
use Rattle.irp_words.specs.declared.ending.Ending.{Ending}
use Rattle.irp_words.proofs.ToldOfWords.{unread_fails}
use Rattle.irp_words.proofs.run.Goals as goal

pub returns-in-Ok : goal.returns-in-Ok
returns-in-Ok g c = inr (
  c.in-Ok.text.items,
  c.in-Ok.ensures.bytes,
  subst (λ (text : List ℕ). Obeys c.args.task text c.run_with.result (g.O.Out.gone c.args.output.now) (g.O.Out.gone c.run_with.new.output))
      c.as_slice.ensures.value c.run_with.ensures,
)

pub returns-in-Err : goal.returns-in-Err
returns-in-Err g c =
    inl (subst (λ (ending : Ending). Fails ending) (sym c.from.ensures) (unread_fails c.in-Err.fault))
