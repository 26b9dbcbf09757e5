use Rattle.std.proofs.Common.{sym, ◌∙◌}
use Rattle.irp_plain.proofs.Telling.{location}
use Rattle.irp_plain.proofs.alike.is_same_location.Goals as goal

pub returns : goal.returns
returns c =
    let decides = location c.args.one c.args.other in
    (λ is. decides.0 (sym c.eq.ensures ∙ is), λ same. c.eq.ensures ∙ decides.1 same)
