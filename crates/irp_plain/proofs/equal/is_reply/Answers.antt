use Rattle.std.proofs.Common.{sym, ◌∙◌}
use Rattle.irp_types.proofs.Deciding.{reply}
use Rattle.irp_plain.proofs.equal.is_reply.Goals as goal

pub returns : goal.returns
returns c =
    let decides = reply c.args.one c.args.other in
    (λ is. decides.0 (sym c.eq.ensures ∙ is), λ same. c.eq.ensures ∙ decides.1 same)
