-- The line is gathered.
use Rattle.irp_transcript_reader.specs.Reading.{with_line}
use Rattle.irp_view.specs.Streams.{output_of}
use Rattle.irp_view.proofs.Listed.{gathered_on}
use Rattle.irp_view.proofs.listing.GatheringLineSink.take.Goals as goal

pub returns : goal.returns
returns g c = λ output aim ended before has place few words.
    gathered_on c.line.result c.args.self.now c.line.new.self (output_of (g.O.Out.gone output) (g.O.Out.failures output)) aim ended before (with_line before c.args.line) has
    (c.line.ensures before has.shows.text has.is place few)
