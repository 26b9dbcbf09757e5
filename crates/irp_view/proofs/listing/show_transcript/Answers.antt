-- The header was read, and then the rest; or what stopped it.
use Rattle.std.proofs.Common.{ℕ, Option, Ok, sym, subst}
use Rattle.irp_feed.specs.Feeding.{IsStart, refused_line}
use Rattle.irp_feed.specs.declared.header.Start.{Start}
use Rattle.irp_view.specs.Listed.{StopsAt, chosen_of}
use Rattle.irp_view.specs.Streams.{Output, output_of, streams_of}
use Rattle.irp_view.proofs.Listed.{no_header, nothing_shown}
use Rattle.irp_view.proofs.listing.show_transcript.Goals as goal

pub returns-in-Ok-None : goal.returns-in-Ok-None
returns-in-Ok-None g c =
    let old = g.R.Read.remaining c.args.input.now in
    let now = g.R.Read.remaining c.read_header.new.input in
    nothing_shown (chosen_of c.args.only c.args.span) old now (output_of (g.O.Out.gone c.args.output.now) (g.O.Out.failures c.args.output.now))
    (subst (λ (start : Option Start). IsStart old now (Ok start) c.read_header.new.reader c.read_header.new.buffer) c.in-Ok-None.field-0-is c.in-Ok-None.ensures.start)

pub returns : goal.returns
returns g c =
    let old = g.R.Read.remaining c.args.input.now in
    let now = g.R.Read.remaining c.read_header.new.input in
    let output : Output = output_of (g.O.Out.gone c.args.output.now) (g.O.Out.failures c.args.output.now) in
    subst (λ (line : Option ℕ). StopsAt (chosen_of c.args.only c.args.span) line (streams_of old output) (streams_of now output)) (sym c.unread_behind-unread.ensures)
    (no_header (chosen_of c.args.only c.args.span) (refused_line c.in-Err.unfed) old now output c.in-Err.ensures.start)

pub returns-in-Ok-Some : goal.returns-in-Ok-Some
returns-in-Ok-Some g c =
    let old = g.R.Read.remaining c.args.input.now in
    let now = g.R.Read.remaining c.read_header.new.input in
    c.show_behind.ensures old
    (subst (λ (start : Option Start). IsStart old now (Ok start) c.read_header.new.reader c.read_header.new.buffer) c.in-Ok-Some.field-0-is c.in-Ok-Some.ensures.start)
