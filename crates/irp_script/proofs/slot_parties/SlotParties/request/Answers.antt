use Rattle.std.proofs.Common.{◌≡◌, subst, rules}
use Rattle.irp_slots.specs.Calls.{Requests, RequestSteps}
use Rattle.irp_script.specs.AtSlots.{AtSlots}
use Rattle.irp_script.proofs.Slotted.{requesting}
use Rattle.irp_script.proofs.slot_parties.SlotParties.request.Goals as goal

pub returns : goal.returns
returns c =
    requesting c.args.slot c.args.self.now _ _ c.request.new.canceller c.request.result c.requested-reply.result.1
    (subst (λ (was : AtSlots). c.request.new.canceller.table ≡ was.canceller.table) c.self.view_is c.request.ensures.table)
    (subst (λ (was : AtSlots). Requests was.slots c.args.slot was.canceller c.request.new.canceller c.request.result) c.self.view_is c.request.ensures.reply)
    (subst (λ (was : AtSlots). RequestSteps c.args.slot was.canceller.asking c.request.new.canceller.asking c.request.result) c.self.view_is c.request.ensures.steps)
    c.requested-reply.ensures.reply c.requested-reply.ensures.token (search rules)
