-- The verdict's line was put.
use Rattle.std.proofs.lemmas.Result.{on_ok_weaker}
use Rattle.irp_story.proofs.Told.{told_all}
use Rattle.irp_story.proofs.story.Story.end.Goals as goal

pub returns : goal.returns
returns c = λ sent transcript told.
    on_ok_weaker c.put_verdict.result
    (told_all c.args.self.now c.args.self.now transcript sent c.args.out.now.items c.put_verdict.new.out.items told c.fed.result c.verdict.result c.fed.ensures
    (c.verdict.ensures transcript.entries told.judged))
    c.put_verdict.ensures
