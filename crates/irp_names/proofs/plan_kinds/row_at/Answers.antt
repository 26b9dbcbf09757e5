-- What stands at a place of a column is that part of the row there.
use Rattle.std.proofs.Common.{[], sym}
use Rattle.std.proofs.lemmas.List.{get_or-map}
use Rattle.irp_names.proofs.plan_kinds.row_at.Goals as goal

pub returns-clause-word : goal.returns-clause-word
returns-clause-word c = sym (get_or-map (λ row. row.1.now) c.args.forms.now c.args.at _ [] c.requires)

pub returns-clause-parts : goal.returns-clause-parts
returns-clause-parts c = sym (get_or-map (λ row. row.2.now) c.args.forms.now c.args.at _ [] c.requires)
