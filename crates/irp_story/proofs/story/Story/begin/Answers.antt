-- The header's line was put.
use Rattle.irp_story.proofs.Told.{told_header}
use Rattle.irp_story.proofs.story.Story.begin.Goals as goal

pub returns : goal.returns
returns c =
    told_header _ c.args.header.now c.args.out.now.items c.put_line.new.out.items c.new-judge.ensures.header c.new-judge.ensures.judged c.requires.empty c.in_ok-put_line.ensures
