use Rattle.std.proofs.Common.{rules}
use Rattle.irp_script.proofs.Slotted.{withdrawing, unowned}
use Rattle.irp_script.proofs.slot_parties.SlotParties.withdraw.Goals as goal

pub returns : goal.returns
returns c =
    withdrawing c.args.slot c.args.self.now _ _ c.in-Some.at c.index_mut-owner.result.now c.withdraw.new.owner c.withdraw.result c.withdrawn-reply.result.1
    (search rules) (search rules) (search rules) c.withdraw.ensures.table c.withdraw.ensures.reply c.withdraw.ensures.steps c.withdrawn-reply.ensures.reply c.withdrawn-reply.ensures.token (search rules)

pub returns-in_default : goal.returns-in_default
returns-in_default c = unowned c.args.slot _ _ c.as_slice.result.now c.place_of.result (search rules) (search rules) c.in_default.is c.place_of.ensures.none
