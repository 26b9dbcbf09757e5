-- The step's line was put.
use Rattle.std.proofs.lemmas.Result.{on_ok_weaker}
use Rattle.irp_story.proofs.Told.{told_step}
use Rattle.irp_story.proofs.story.Story.step.Goals as goal

pub returns : goal.returns
returns c = λ sent before told.
    on_ok_weaker c.put_line.result
    (told_step c.args.self.now c.args.self.now before sent c.args.out.now.items c.put_line.new.out.items told c.args.word)
    c.put_line.ensures
