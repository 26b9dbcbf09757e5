-- The header's line was told, and then the rest; or memory ran out for it.
use Rattle.irp_view.specs.Streams.{output_of}
use Rattle.irp_view.proofs.Stories.{header_untold}
use Rattle.irp_view.proofs.story.tell_behind.Goals as goal

pub returns-in-Ok : goal.returns-in-Ok
returns-in-Ok g c = c.tell_rest.ensures

pub returns-in-Err : goal.returns-in-Err
returns-in-Err g c = λ left starts.
    header_untold left (g.R.Read.remaining c.args.input.now) c.args.start.now c.args.reader.now c.args.buffer.now
    (output_of (g.O.Out.gone c.args.output.now) (g.O.Out.failures c.args.output.now)) starts
