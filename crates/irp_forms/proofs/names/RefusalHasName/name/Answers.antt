-- The name of a refusal stands between quotation marks as it is.
use Rattle.irp_forms.proofs.Quoting.{refusal_quoted}
use Rattle.irp_forms.proofs.names.RefusalHasName.name.Goals as goal

pub returns-clause-as_it_stands : goal.returns-clause-as_it_stands
returns-clause-as_it_stands c = rw c.refusal_name.ensures (refusal_quoted c.args.self)
