-- A line with a fault is answered by it.
use Rattle.serde_json.specs.View.{view}
use Rattle.irp_live.specs.Sessions.{session_of}
use Rattle.irp_live.proofs.Replies.{fault_gives, reply_gives}
use Rattle.irp_live.proofs.session.Session.reply.Goals as goal

pub returns-in_ok-said-in-Err-Fault : goal.returns-in_ok-said-in-Err-Fault
returns-in_ok-said-in-Err-Fault c =
    let heard = rw c.in-Err-Fault.field-0-is at c.in-Err-Fault.ensures.err in
    fault_gives c.args.number (session_of c.args.self.now) c.args.line.now c.in_ok-said-in-Err-Fault.said.items c.in-Err-Fault.fault
    heard c.in_ok-said-in-Err-Fault.ensures c.requires

pub returns-in-Ok : goal.returns-in-Ok
returns-in-Ok c =
    reply_gives _ c.args.number (session_of c.args.self.now) _ c.args.line.now (view c.in-Ok.value) c.answer.result c.in-Ok.ensures.ok c.answer.ensures
