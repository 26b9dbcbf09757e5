-- What follows the header is shown; or what stopped it.
use Rattle.std.proofs.Common.{refl}
use Rattle.irp_view.specs.Listed.{Aim, aim_of, chosen_of}
use Rattle.irp_view.specs.Streams.{Output, output_of}
use Rattle.irp_view.proofs.Listed.{starts_shown}
use Rattle.irp_view.proofs.listing.show_behind.Goals as goal

pub returns-in-Ok : goal.returns-in-Ok
returns-in-Ok g c = λ left starts.
    (let before : Output = output_of (g.O.Out.gone c.args.output.now) (g.O.Out.failures c.args.output.now) in
    let fed = c.in-Ok.ensures left (aim_of (chosen_of c.args.only c.args.span) before) starts (starts_shown _ c.args.start.now.header before c.new.ensures refl refl) in
    (fed.0, fed.1, fed.2.shows))

pub returns : goal.returns
returns g c = λ left starts.
    (let before : Output = output_of (g.O.Out.gone c.args.output.now) (g.O.Out.failures c.args.output.now) in
    let aim : Aim = aim_of (chosen_of c.args.only c.args.span) before in
    let stops = c.in-Err.ensures left aim starts (starts_shown _ c.args.start.now.header before c.new.ensures refl refl) in
    c.told.ensures left (g.R.Read.remaining c.feed_rest.new.input) (output_of (g.O.Out.gone c.feed_rest.new.output) (g.O.Out.failures c.feed_rest.new.output)) aim stops.0 stops.1 stops.2)
