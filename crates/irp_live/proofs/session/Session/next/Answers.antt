-- The line is taken and judged, or it isn't the next line and is told so.
use Rattle.std.proofs.Common.{Err, ap, rules}
use Rattle.serde_json.specs.View.{view}
use Rattle.irp_live.specs.Sessions.{session_of}
use Rattle.irp_live.proofs.Replies.{next_gives, no_form_gives}
use Rattle.irp_live.proofs.session.Session.next.Goals as goal

pub returns-in-Ok : goal.returns-in-Ok
returns-in-Ok c =
    next_gives _ c.args.number (session_of c.args.self.now) _ (view c.args.value.now) _ _ c.next_line.result c.wrong_at-before.ensures
    (search rules) c.in-Ok.ensures.next c.in-Ok.ensures.stands c.next_line.ensures

pub returns-in-Err-Form : goal.returns-in-Err-Form
returns-in-Err-Form c =
    no_form_gives _ c.args.number (session_of c.args.self.now) _ (view c.args.value.now) c.line_of.result
    (c.in-Err-Form.ensures.refused (ap Err c.in-Err-Form.field-0-is)) c.requires (c.in-Err-Form.ensures.same (ap Err c.in-Err-Form.field-0-is))
    c.line_of.ensures
