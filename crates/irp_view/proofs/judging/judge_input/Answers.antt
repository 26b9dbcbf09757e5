-- The header was read, and then the rest; or what stopped it.
use Rattle.std.proofs.Common.{Option, Ok, sym, subst}
use Rattle.irp_transcript.specs.Transcripts.{no_lines}
use Rattle.irp_feed.specs.Feeding.{Fails, IsStart, refused_line}
use Rattle.irp_feed.specs.declared.header.Start.{Start}
use Rattle.irp_feed.proofs.Fed.{fails_of}
use Rattle.irp_view.proofs.judging.judge_input.Goals as goal

pub returns-in-Ok-Some : goal.returns-in-Ok-Some
returns-in-Ok-Some g c =
    let old = g.R.Read.remaining c.args.input.now in
    let now = g.R.Read.remaining c.read_header.new.input in
    c.judge_behind.ensures old
    (subst (λ (given : Option Start). IsStart old now (Ok given) c.read_header.new.reader c.read_header.new.buffer) c.in-Ok-Some.field-0-is c.in-Ok-Some.ensures.start)

pub returns-in-Ok-None : goal.returns-in-Ok-None
returns-in-Ok-None g c =
    let old = g.R.Read.remaining c.args.input.now in
    let now = g.R.Read.remaining c.read_header.new.input in (
      no_lines,
      subst (λ (given : Option Start). IsStart old now (Ok given) c.read_header.new.reader c.read_header.new.buffer) c.in-Ok-None.field-0-is c.in-Ok-None.ensures.start,
      c.found_nothing.ensures,
    )

pub returns : goal.returns
returns g c =
    let old = g.R.Read.remaining c.args.input.now in
    let now = g.R.Read.remaining c.read_header.new.input in
    subst (Fails old now) (sym c.unread_behind.ensures) (fails_of (refused_line c.in-Err.unfed) old now no_lines c.in-Err.ensures.start)
