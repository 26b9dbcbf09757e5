use Rattle.std.proofs.Common.{◌≡◌, get_or, set, ◌∙◌, rules}
use Rattle.std.specs.Prelude.{IsOk}
use Rattle.std.specs.List.{insert, remove}
use Rattle.irp_script.specs.Seats.{seat_at_work}
use Rattle.irp_script.proofs.Handing.{changed_two, hands_two, inserted, there_still, two_fit}
use Rattle.irp_script.proofs.worker_steps.hand_between.Goals as goal

pub returns-clause-fits : goal.returns-clause-fits
returns-clause-fits g c =
    let there : c.index_mut-taker.result.now ≡ get_or (remove c.args.seats.now.items c.args.from_at) c.once_removed.result c.index_mut-taker.result.now = search rules in
    let here = there ∙ there_still c.args.seats.now.items c.args.from_at c.args.to_at c.once_removed.result c.index_mut-taker.result.now c.requires.apart c.once_removed.ensures.before c.once_removed.ensures.behind in
    let room : IsOk c.insert.result = c.insert.ensures.succeeds (search rules) in
    let put : c.insert.new.self.items ≡ insert (set (remove c.args.seats.now.items c.args.from_at) c.once_removed.result c.hand-reply.new.taker) c.args.from_at c.hand-reply.new.self =
    c.insert.ensures.items ∙ inserted c.insert.result _ _ room ∙ (search rules) in
    let changed = put ∙ changed_two c.args.seats.now.items c.args.from_at c.args.to_at c.once_removed.result c.hand-reply.new.self c.hand-reply.new.taker c.requires.there.0 c.requires.there.1 c.requires.apart c.once_removed.ensures.before c.once_removed.ensures.behind in
    two_fit seat_at_work _ _ _ _ c.args.from_at c.args.to_at c.args.seats.now.items _ c.remove-giver.result c.hand-reply.new.self c.index_mut-taker.result.now c.hand-reply.new.taker _
    c.requires.there.0 c.requires.there.1 c.remove-giver.ensures.value here changed c.hand-reply.ensures c.requires.fits

pub returns-clause-hands : goal.returns-clause-hands
returns-clause-hands g c =
    let there : c.index_mut-taker.result.now ≡ get_or (remove c.args.seats.now.items c.args.from_at) c.once_removed.result c.index_mut-taker.result.now = search rules in
    let here = there ∙ there_still c.args.seats.now.items c.args.from_at c.args.to_at c.once_removed.result c.index_mut-taker.result.now c.requires.apart c.once_removed.ensures.before c.once_removed.ensures.behind in
    let room : IsOk c.insert.result = c.insert.ensures.succeeds (search rules) in
    let put : c.insert.new.self.items ≡ insert (set (remove c.args.seats.now.items c.args.from_at) c.once_removed.result c.hand-reply.new.taker) c.args.from_at c.hand-reply.new.self =
    c.insert.ensures.items ∙ inserted c.insert.result _ _ room ∙ (search rules) in
    let changed = put ∙ changed_two c.args.seats.now.items c.args.from_at c.args.to_at c.once_removed.result c.hand-reply.new.self c.hand-reply.new.taker c.requires.there.0 c.requires.there.1 c.requires.apart c.once_removed.ensures.before c.once_removed.ensures.behind in
    hands_two seat_at_work _ _ _ c.args.from_at c.args.to_at c.args.seats.now.items _ c.remove-giver.result c.hand-reply.new.self c.index_mut-taker.result.now c.hand-reply.new.taker _
    c.requires.there.0 c.requires.there.1 c.remove-giver.ensures.value here changed c.hand-reply.ensures
