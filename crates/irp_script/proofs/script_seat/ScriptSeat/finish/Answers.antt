use Rattle.std.proofs.Common.{refl, ap, sym, subst, Some, Err}
use Rattle.irp_script.specs.Stops.{IsUnrecorded, terms_of}
use Rattle.irp_script.proofs.Stopping.{unrecorded_so}
use Rattle.irp_script.proofs.Working.{finish_made, finish_stays}
use Rattle.irp_script.proofs.script_seat.ScriptSeat.finish.Goals as goal

pub returns-in-Ok-clause-finishes : goal.returns-in-Ok-clause-finishes
returns-in-Ok-clause-finishes g c =
    finish_made c.args.index c.args.step c.args.slot c.args.status c.args.information c.args.self.now.seat _ c.args.self.now.remove _ c.args.self.now.parties c.take.new.self _ _ _ c.args.known.now _
    c.in-Some.at c.in-Some.token c.packet_of-named.result _ _ _ c.in-Some.ensures.found c.packet_of-named.ensures c.took.ensures c.in-Ok.ensures.called c.in-Ok.ensures.spent refl c.in-Some.ensures.rest c.put_back.ensures refl c.reply.ensures

pub returns-in-Err-clause-finishes : goal.returns-in-Err-clause-finishes
returns-in-Err-clause-finishes g c =
    let terms = terms_of g.L.Session.fixed g.L.Session.may in (
      (
        finish_stays c.args.slot c.args.self.now.seat _ c.args.self.now.remove _ c.args.self.now.parties c.take.new.self _ c.in-Some.at c.in-Some.token _
            c.in-Some.ensures.found c.in-Err.ensures.err.0 (ap Some c.in-Err.ensures.err.1) refl c.in-Some.ensures.rest c.put_back-in-Err.ensures,
        refl,
      ),
      subst (IsUnrecorded terms c.args.self.now.seat.seen) (sym c.from.ensures)
          (unrecorded_so terms c.in-Err.error c.args.self.now.seat.seen
          (λ told is. c.in-Err.ensures.behind told c.in-Err.token (ap (λ error. Err (error, c.in-Err.token)) is))
          (λ is. c.in-Err.ensures.full c.in-Err.token (ap (λ error. Err (error, c.in-Err.token)) is))),
    )
