-- The entry's line was put, once it was judged.
use Rattle.std.proofs.Common.{◌∙◌}
use Rattle.std.proofs.lemmas.Result.{on_ok_weaker}
use Rattle.irp_story.proofs.Told.{told_entry}
use Rattle.irp_story.proofs.story.Story.entry.Goals as goal

pub returns : goal.returns
returns c = λ sent before told none few.
    on_ok_weaker c.put_line.result
    (told_entry c.args.self.now _ before sent c.args.out.now.items c.put_line.new.out.items told c.args.entry.now c.fed-place.result (c.fed-place.ensures ∙ told.judged.counted) none
    c.in_ok-feed.ensures.header (c.in_ok-feed.ensures.judged before.entries told.judged few))
    c.put_line.ensures
