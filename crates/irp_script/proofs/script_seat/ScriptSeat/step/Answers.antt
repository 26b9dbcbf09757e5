use Rattle.std.proofs.Common.{sym, subst, refl, Ok, ◌∙◌}
use Rattle.irp_script.specs.Seats.{seat_at_work}
use Rattle.irp_script.specs.Stops.{terms_of}
use Rattle.irp_script.specs.Working.{Does}
use Rattle.irp_steps.specs.declared.answered.Answered.TheVariants.{Reply}
use Rattle.irp_script.proofs.Working.{call_made}
use Rattle.irp_script.proofs.script_seat.ScriptSeat.step.Goals as goal

pub returns-in_ok-call-in-Calls-clause-does : goal.returns-in_ok-call-in-Calls-clause-does
returns-in_ok-call-in-Calls-clause-does g c =
    let reply = c.in_ok-call-in-Calls.field-0 in
    let old = c.args.self.now in
    let new = c.call.new.self in
    let lines = c.args.words.now.items in
    subst (λ kind. Does g.L.Session.fixed.locks c.args.index c.args.step kind (seat_at_work old) (seat_at_work new) lines lines c.args.known.now c.call.new.known (Reply reply)) (sym (sym c.kind_of.ensures ∙ c.in-Calls.is))
    (call_made (terms_of g.L.Session.fixed g.L.Session.may) (Ok reply) c.args.index c.args.step old.seat new.seat old.remove new.remove old.parties new.parties lines lines c.args.known.now c.call.new.known
    c.in_ok-call-in-Calls.ensures.called c.call.ensures.remove c.call.ensures.parties refl)
