use Rattle.std.proofs.lemmas.Bool.Decides.{Decides-at}
use Rattle.irp_grammar.proofs.Deciding.{step}
use Rattle.irp_grammar.proofs.same.is_step.Goals as goal

pub returns : goal.returns
returns c = Decides-at _ _ c.eq.ensures (step _ _)
