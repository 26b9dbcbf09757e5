use Rattle.std.proofs.Common.{map, refl, sym, subst}
use Rattle.irp_types.specs.Packet.{PacketValue, with_status}
use Rattle.irp_types.specs.Status.{cancelled}
use Rattle.irp_types.specs.Steps.{Completes, Follows}
use Rattle.irp_types.specs.Unwinding.{as_asked, Unwound}
use Rattle.irp_types.specs.declared.answer.CancelAnswer.{CancelAnswer}
use Rattle.irp_manager.proofs.Questions.{given_answered}
use Rattle.irp_manager.proofs.cancellation.follow.Goals as goal

pub returns-in-Finish-clause-followed : goal.returns-in-Finish-clause-followed
returns-in-Finish-clause-followed g c =
    let ask = c.args.ask.now in
    let irp = c.args.irp in
    let old = c.args.packet.now in
    let new = c.unwind-ending.new.packet in
    let unwinds = c.unwind-ending.ensures.unwinds in
    let finished : Completes irp (with_status old cancelled c.in-Finish.information) (map as_asked unwinds.asked) new =
    (unwinds.asked, subst (λ (given : PacketValue). Unwound irp given unwinds.asked new) c.set_status.ensures unwinds.unwound, refl) in
    record {
      later = map as_asked unwinds.asked;
      follows = subst (λ (given : CancelAnswer). Follows irp old given (map as_asked unwinds.asked) new) (sym c.in-Finish.is) finished;
      listed = unwinds.listed;
      answered = given_answered (g.A.Ask.may_plan ask) (g.A.Ask.may_answer ask) (g.A.Ask.may_cancel ask) unwinds.asked unwinds.given;
    }
