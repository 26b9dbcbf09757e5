use Rattle.std.proofs.Common.{sym, ◌∙◌}
use Rattle.serde_json.proofs.Views.{view-Object, members_len-members_view}
use Rattle.irp_forms.proofs.parts.count_members.Goals as goal

pub returns-in-Object : goal.returns-in-Object
returns-in-Object c = rw (c.in-Object.is, view-Object c.in-Object.members) (c.len.ensures.len ∙ sym (members_len-members_view c.in-Object.members.entries))
