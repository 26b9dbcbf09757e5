use Rattle.std.proofs.Common.{ap, ap₂, sym, subst, ◌∙◌, Err}
use Rattle.irp_script.specs.Labels.{known_behind}
use Rattle.irp_script.specs.Stops.{IsUnrecorded, terms_of}
use Rattle.irp_script.proofs.StepCalls.{tokenless}
use Rattle.irp_script.proofs.Stopping.{unrecorded_so}
use Rattle.irp_script.proofs.script_seat.ScriptSeat.call.Goals as goal

pub call-requires : goal.call-requires
call-requires g c = record { free = tokenless c.args.step.act c.packet_of-named.result.irp c.in-Some.call (sym c.in-Some.ensures) }

pub returns-in-Err-clause-called : goal.returns-in-Err-clause-called
returns-in-Err-clause-called g c =
    let terms = terms_of g.L.Session.fixed g.L.Session.may in (
      c.in-Err.ensures.err,
      subst (IsUnrecorded terms c.args.self.now.seat.seen) (sym c.from.ensures)
          (unrecorded_so terms c.in-Err.error c.args.self.now.seat.seen
          (λ told is. c.in-Err.ensures.behind told (ap Err is)) (λ is. c.in-Err.ensures.full (ap Err is))),
    )

pub returns-in-Ok-clause-called : goal.returns-in-Ok-clause-called
returns-in-Ok-clause-called g c = record {
  call = c.in-Some.call;
  receipt = _;
  of_act = record { packet = c.packet_of-named.result; named = c.packet_of-named.ensures; made = sym c.in-Some.ensures };
  recorded = c.in-Ok.ensures.called;
  told = c.reply-reply.ensures;
  bound = c.learn.ensures ∙ ap₂ (λ known reply. known_behind c.args.index known c.args.step.act reply) c.took.ensures c.reply-reply.ensures;
}
