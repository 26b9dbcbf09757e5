-- The line is told.
use Rattle.irp_transcript_reader.specs.Reading.{with_line}
use Rattle.irp_view.specs.Streams.{output_of}
use Rattle.irp_view.proofs.Stories.{told_on}
use Rattle.irp_view.proofs.story.TellingLineSink.take.Goals as goal

pub returns : goal.returns
returns g c = λ output before ended last has place few words.
    told_on c.tell.result c.args.self.now c.tell.new.self (output_of (g.O.Out.gone output) (g.O.Out.failures output)) before ended last (with_line last c.args.line) has
    c.tell.ensures.calm (c.tell.ensures.told has.went.text last has.told place few)
