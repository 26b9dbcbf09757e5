use Rattle.std.proofs.Common.{◌≡◌, List, ◌++◌, map, sym, ◌∙◌, ap, subst}
use Rattle.irp_types.specs.Unwinding.{as_asked}
use Rattle.irp_types.specs.declared.asked.Asked.{Asked}
use Rattle.irp_routines.specs.Answers.{AreAnswered}
use Rattle.irp_manager.proofs.Questions.{given_answered}
use Rattle.irp_manager.proofs.packets.finish_taken.Goals as goal

pub returns-clause-may : goal.returns-clause-may
returns-clause-may g c =
    let unwinds = c.unwind-ending.ensures.unwinds in
    let ask = c.args.ask.now in
    let listed : c.unwind-ending.new.asked.items ≡ map as_asked unwinds.asked = unwinds.listed ∙ ap (λ (before : List Asked). before ++ map as_asked unwinds.asked) c.requires.empty in
    subst (AreAnswered (g.A.Ask.may_plan ask) (g.A.Ask.may_answer ask) (g.A.Ask.may_cancel ask)) (sym listed)
    (given_answered (g.A.Ask.may_plan ask) (g.A.Ask.may_answer ask) (g.A.Ask.may_cancel ask) unwinds.asked unwinds.given)
