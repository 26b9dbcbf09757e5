use Rattle.std.proofs.Common.{rules}
use Rattle.irp_script.proofs.Slotted.{publishing, unowned}
use Rattle.irp_script.proofs.slot_parties.SlotParties.publish.Goals as goal

pub returns : goal.returns
returns c =
    publishing c.args.slot c.args.irp.use_no c.args.self.now _ _ c.in-Some.at c.index_mut-owner.result.now c.publish.new.owner c.publish.result c.published-reply.result.1
    (search rules) (search rules) (search rules) c.publish.ensures.table c.publish.ensures.reply c.publish.ensures.steps c.published-reply.ensures.reply c.published-reply.ensures.token (search rules)

pub returns-in_default : goal.returns-in_default
returns-in_default c = unowned c.args.slot _ _ c.as_slice.result.now c.place_of.result (search rules) (search rules) c.in_default.is c.place_of.ensures.none
