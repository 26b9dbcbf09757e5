use Rattle.std.proofs.lemmas.Bool.Decides.{Decides-at}
use Rattle.irp_grammar.proofs.Deciding.{plan}
use Rattle.irp_grammar.proofs.same.is_plan.Goals as goal

pub returns : goal.returns
returns c = Decides-at _ _ c.eq.ensures (plan _ _)
