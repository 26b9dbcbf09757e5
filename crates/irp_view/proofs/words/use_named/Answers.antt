-- Texts that write no numbers are none that the program takes.
use Rattle.std.proofs.Common.{ℕ, List, Option, Some, Bor, option_map, refl, subst}
use Rattle.irp_view.specs.CommandLine.{IsNeededUse}
use Rattle.irp_view.specs.Spans.{OrNone, IsUse}
use Rattle.irp_view.proofs.words.use_named.Goals as goal

pub returns-in-None : goal.returns-in-None
returns-in-None c = (
  refl,
  λ value is.
      let first = subst (λ (this : Option (Bor (List ℕ))). IsNeededUse (option_map (λ (text : Bor (List ℕ)). text.now) this) (option_map (λ (text : Bor (List ℕ)). text.now) c.args.use_no) value) c.in-Some-Some.is-0 is in
      let named = subst (λ (this : Option (Bor (List ℕ))). IsNeededUse (Some c.in-Some-Some.slot.now) (option_map (λ (text : Bor (List ℕ)). text.now) this) value) c.in-Some-Some.is-1 first in
      subst (OrNone (IsUse c.in-Some-Some.slot.now c.in-Some-Some.use_no.now)) c.in-None.is c.use_in.ensures value named,
)
