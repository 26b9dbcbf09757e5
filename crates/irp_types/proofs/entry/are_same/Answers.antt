use Rattle.std.proofs.lemmas.Slice.Eq.{slice_eq-Decides}
use Rattle.irp_types.proofs.Deciding.{asked}
use Rattle.irp_types.proofs.entry.are_same.Goals as goal

pub returns : goal.returns
returns c = slice_eq-Decides asked _ _ _ c.eq.ensures
