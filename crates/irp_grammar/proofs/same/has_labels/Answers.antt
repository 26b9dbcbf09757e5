use Rattle.std.proofs.Common.{◌∙◌, Bor, List, ℕ, ap, map, sym}
use Rattle.irp_grammar.proofs.same.has_labels.Goals as goal

pub returns : goal.returns
returns c =
    let named = ap (map (λ (label : Bor (List ℕ)). label.now)) c.labels.ensures in (
      λ yes. sym c.as_slice.ensures ∙ c.are_labels.ensures.0 yes ∙ named,
      λ is. c.are_labels.ensures.1 (c.as_slice.ensures ∙ is ∙ sym named),
    )
