-- What stands at a place of a column is that part of the row there.
use Rattle.std.proofs.Common.{[], sym}
use Rattle.std.proofs.lemmas.List.{get_or-map}
use Rattle.irp_forms.proofs.step_names.row_at.Goals as goal

pub returns-clause-word : goal.returns-clause-word
returns-clause-word c = sym (get_or-map (λ row. row.1.now) c.args.forms.now c.args.at _ [] c.requires)

pub returns-clause-windows : goal.returns-clause-windows
returns-clause-windows c = sym (get_or-map (λ row. row.2.now) c.args.forms.now c.args.at _ [] c.requires)

pub returns-clause-rules : goal.returns-clause-rules
returns-clause-rules c = sym (get_or-map (λ row. row.3.now) c.args.forms.now c.args.at _ [] c.requires)

pub returns-clause-checks : goal.returns-clause-checks
returns-clause-checks c = sym (get_or-map (λ row. row.4.now) c.args.forms.now c.args.at _ [] c.requires)

pub returns-clause-answer : goal.returns-clause-answer
returns-clause-answer c = sym (get_or-map (λ row. row.5.now) c.args.forms.now c.args.at _ [] c.requires)
