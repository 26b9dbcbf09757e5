use Rattle.std.proofs.lemmas.Slice.Eq.{slice_eq-Decides}
use Rattle.irp_grammar.proofs.Deciding.{cancel_answer}
use Rattle.irp_grammar.proofs.same.are_cancels.Goals as goal

pub returns : goal.returns
returns c = slice_eq-Decides cancel_answer _ _ _ c.eq.ensures
