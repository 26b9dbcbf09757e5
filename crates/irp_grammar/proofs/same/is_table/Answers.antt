use Rattle.std.proofs.lemmas.Slice.Eq.{slice_eq-Decides}
use Rattle.std.specs.Cmp.{unsigned_Decides}
use Rattle.irp_types.proofs.Deciding.{also, dispatch}
use Rattle.irp_grammar.proofs.same.is_table.Goals as goal

pub returns : goal.returns
returns c = slice_eq-Decides (also unsigned_Decides dispatch) _ _ _ c.eq.ensures
