-- The verdict was told, and the rest was sent.
use Rattle.std.proofs.Common.{[]}
use Rattle.irp_view.specs.Streams.{Output, output_of}
use Rattle.irp_view.proofs.Stories.{end_sent, end_untold}
use Rattle.irp_view.proofs.story.send_end.Goals as goal

pub returns-in-Ok : goal.returns-in-Ok
returns-in-Ok g c = λ old new before transcript holds is.
    (let mid : Output = output_of (g.O.Out.gone c.args.output.now) (g.O.Out.failures c.args.output.now) in
    let after : Output = output_of (g.O.Out.gone c.send_text.new.output) (g.O.Out.failures c.send_text.new.output) in
    end_sent c.args.telling.now _ mid after before transcript is c.send_text.result (c.in-Ok.ensures is.went.text transcript is.told) old new holds
    (rw c.as_slice.ensures.value at c.send_text.ensures))

pub returns-in-Err : goal.returns-in-Err
returns-in-Err g c = λ old new before transcript holds is.
    (let mid : Output = output_of (g.O.Out.gone c.args.output.now) (g.O.Out.failures c.args.output.now) in
    end_untold c.args.telling.now [] mid mid before transcript is old new holds)
