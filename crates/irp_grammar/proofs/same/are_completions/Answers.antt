use Rattle.std.proofs.lemmas.Slice.Eq.{slice_eq-Decides}
use Rattle.irp_grammar.proofs.Deciding.{completion}
use Rattle.irp_grammar.proofs.same.are_completions.Goals as goal

pub returns : goal.returns
returns c = slice_eq-Decides completion _ _ _ c.eq.ensures
