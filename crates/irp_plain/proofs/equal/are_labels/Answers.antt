use Rattle.std.proofs.lemmas.Slice.Eq.{slice_eq-Decides}
use Rattle.irp_types.proofs.Deciding.{irp}
use Rattle.irp_plain.proofs.equal.are_labels.Goals as goal

pub returns : goal.returns
returns c = slice_eq-Decides irp _ _ _ c.eq.ensures
