-- What was told of the block was sent, or a beginning of it.
use Rattle.std.proofs.Common.{refl}
use Rattle.irp_view.specs.Streams.{Output, output_of}
use Rattle.irp_view.proofs.Stories.{story_breaks, story_left, story_sent}
use Rattle.irp_view.proofs.story.TellingLineSink.end_block.Goals as goal

pub returns-in-Ok : goal.returns-in-Ok
returns-in-Ok g c =
    let mid : Output = output_of (g.O.Out.gone c.args.output.now) (g.O.Out.failures c.args.output.now) in
    let new : Output = output_of (g.O.Out.gone c.send.new.output) (g.O.Out.failures c.send.new.output) in
    let written = rw c.as_slice.ensures.value at c.in-Ok.ensures.ok in
    record {
      taken = λ before ended last has more. story_sent c.args.self.now mid new before ended last has _ written c.clear.ensures.items refl refl;
      left = λ before ended last has. story_left c.args.self.now mid new before ended last has _ written refl;
    }

pub returns-in-Err : goal.returns-in-Err
returns-in-Err g c =
    let mid : Output = output_of (g.O.Out.gone c.args.output.now) (g.O.Out.failures c.args.output.now) in
    let new : Output = output_of (g.O.Out.gone c.send.new.output) (g.O.Out.failures c.send.new.output) in
    record {
      taken = λ before ended last has more. absurd (cc (more));
      left = λ before ended last has. story_breaks c.args.self.now mid new before ended last has c.in-Err.fault (rw c.as_slice.ensures.value at c.in-Err.ensures.err);
    }
