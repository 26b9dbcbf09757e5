use Rattle.std.proofs.Common.{◌≡◌, ◌≤◌, length, ap, arith}
use Rattle.irp_manager.specs.ManagerStates.{state_of, most_asked}
use Rattle.irp_manager.specs.Rooms.{can_ask}
use Rattle.irp_manager.proofs.Few.{few_stepped, at_most}
use Rattle.irp_manager.proofs.manager_state.ManagerState.apply.Goals as goal

pub answer-requires-clause-room : goal.answer-requires-clause-room
answer-requires-clause-room g c = omega (arith, c.in_ok-asked.ensures.1, c.in_ok-asked.ensures.2)

pub returns-clause-few : goal.returns-clause-few
returns-clause-few g c =
    let few : length c.answer.new.asked.items ≤ can_ask (state_of g.K.Keep.live c.args.self.now) c.args.call = few_stepped _ _ _ _ _ _ _ _ c.in_ok-reply.ensures.stepped c.requires.stands in
    let most : can_ask (state_of g.K.Keep.live c.args.self.now) c.args.call ≤ most_asked c.args.call = at_most _ (state_of g.K.Keep.live c.args.self.now) c.args.call c.requires.stands in
    let same : length c.give_back.new.room.items ≡ length c.answer.new.asked.items = ap length c.give_back.ensures.items in
    omega (arith, few, most, same)

pub returns-clause-stepped : goal.returns-clause-stepped
returns-clause-stepped g c =
    let stepped = c.in_ok-reply.ensures.stepped in
    rw c.give_back.ensures.items (record { step = stepped.step; stands = stepped.stands; fixed = stepped.fixed })
