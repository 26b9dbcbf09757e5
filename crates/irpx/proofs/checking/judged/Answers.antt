-- The header was read, and then the rest; or what stopped it.
use Rattle.std.proofs.Common.{Option, Ok, sym, subst}
use Rattle.irp_transcript.specs.Transcripts.{no_lines}
use Rattle.irp_feed.specs.Feeding.{IsStart}
use Rattle.irp_feed.specs.declared.header.Start.{Start}
use Rattle.irpx.specs.Judging.{Fails}
use Rattle.irpx.proofs.Judged.{stops_so, verdict_on_none}
use Rattle.irpx.proofs.checking.judged.Goals as goal

pub returns-in-Ok-None : goal.returns-in-Ok-None
returns-in-Ok-None g c =
    let old = g.R.Read.remaining c.args.input.now in
    let now = g.R.Read.remaining c.read_header.new.input in
    verdict_on_none old now
    (subst (λ (given : Option Start). IsStart old now (Ok given) c.read_header.new.reader c.read_header.new.buffer) c.in-Ok-None.field-0-is c.in-Ok-None.ensures.start)

pub returns : goal.returns
returns g c =
    let old = g.R.Read.remaining c.args.input.now in
    let now = g.R.Read.remaining c.read_header.new.input in
    subst (Fails old now) (sym c.refusal.ensures) (stops_so c.in-Err.unfed old now no_lines c.in-Err.ensures.start)

pub returns-in-Ok-Some : goal.returns-in-Ok-Some
returns-in-Ok-Some g c =
    let old = g.R.Read.remaining c.args.input.now in
    let now = g.R.Read.remaining c.read_header.new.input in
    c.judge_rest.ensures old
    (subst (λ (given : Option Start). IsStart old now (Ok given) c.read_header.new.reader c.read_header.new.buffer) c.in-Ok-Some.field-0-is c.in-Ok-Some.ensures.start)
