-- A text that names no span is none that the program takes.
use Rattle.std.proofs.Common.{ℕ, List, Option, Bor, option_map, refl, subst}
use Rattle.irp_view.specs.CommandLine.{IsSpanOf}
use Rattle.irp_view.specs.Spans.{OrNone, IsSpan}
use Rattle.irp_view.proofs.words.span_named.Goals as goal

pub returns-in-None : goal.returns-in-None
returns-in-None c = (
  refl,
  λ value is.
      let named = subst (λ (this : Option (Bor (List ℕ))). IsSpanOf (option_map (λ (text : Bor (List ℕ)). text.now) this) value) c.in-Some.is is in
      subst (OrNone (IsSpan c.in-Some.text.now)) c.in-None.is c.span_in.ensures named.0 named.1,
)
