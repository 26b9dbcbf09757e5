-- All lines were told; or what stopped that.
use Rattle.irp_view.specs.Streams.{Output, output_of}
use Rattle.irp_view.proofs.Stories.{starts_told}
use Rattle.irp_view.proofs.story.tell_rest.Goals as goal

pub returns-in-Ok : goal.returns-in-Ok
returns-in-Ok g c = λ left starts.
    (let before : Output = output_of (g.O.Out.gone c.args.output.now) (g.O.Out.failures c.args.output.now) in
    let fed = c.in-Ok.ensures left before starts (starts_told c.args.telling.now c.args.start.now.header before c.requires.calm c.requires.told) in
    c.send_end.ensures left (g.R.Read.remaining c.feed_rest.new.input) before fed.0 fed.1 fed.2)

pub returns-in-Err : goal.returns-in-Err
returns-in-Err g c = λ left starts.
    (let before : Output = output_of (g.O.Out.gone c.args.output.now) (g.O.Out.failures c.args.output.now) in
    let stops = c.in-Err.ensures left before starts (starts_told c.args.telling.now c.args.start.now.header before c.requires.calm c.requires.told) in
    c.untold.ensures left (g.R.Read.remaining c.feed_rest.new.input) (output_of (g.O.Out.gone c.feed_rest.new.output) (g.O.Out.failures c.feed_rest.new.output)) before stops.0 stops.1 stops.2)
