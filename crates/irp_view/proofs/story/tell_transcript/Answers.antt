-- The header was read, and then the rest was told; or what stopped it.
use Rattle.std.proofs.Common.{ℕ, Option, Ok, sym, subst}
use Rattle.irp_feed.specs.Feeding.{IsStart, refused_line}
use Rattle.irp_feed.specs.declared.header.Start.{Start}
use Rattle.irp_view.specs.Story.{StopsStory}
use Rattle.irp_view.specs.Streams.{Output, output_of, streams_of}
use Rattle.irp_view.proofs.Stories.{no_header_told}
use Rattle.irp_view.proofs.story.tell_transcript.Goals as goal

pub returns-in-Ok-None : goal.returns-in-Ok-None
returns-in-Ok-None g c =
    let old = g.R.Read.remaining c.args.input.now in
    let now = g.R.Read.remaining c.read_header.new.input in
    c.tell_none.ensures old now
    (subst (λ (start : Option Start). IsStart old now (Ok start) c.read_header.new.reader c.read_header.new.buffer) c.in-Ok-None.field-0-is c.in-Ok-None.ensures.start)

pub returns : goal.returns
returns g c =
    let old = g.R.Read.remaining c.args.input.now in
    let now = g.R.Read.remaining c.read_header.new.input in
    let output : Output = output_of (g.O.Out.gone c.args.output.now) (g.O.Out.failures c.args.output.now) in
    subst (λ (line : Option ℕ). StopsStory line (streams_of old output) (streams_of now output)) (sym c.unread_behind-unread.ensures)
    (no_header_told (refused_line c.in-Err.unfed) old now output c.in-Err.ensures.start)

pub returns-in-Ok-Some : goal.returns-in-Ok-Some
returns-in-Ok-Some g c =
    let old = g.R.Read.remaining c.args.input.now in
    let now = g.R.Read.remaining c.read_header.new.input in
    c.tell_behind.ensures old
    (subst (λ (start : Option Start). IsStart old now (Ok start) c.read_header.new.reader c.read_header.new.buffer) c.in-Ok-Some.field-0-is c.in-Ok-Some.ensures.start)
