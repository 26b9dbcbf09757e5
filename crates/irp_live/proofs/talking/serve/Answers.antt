-- Behind the answer to the header come those to the further lines.
use Rattle.std.proofs.Common.{refl}
use Rattle.irp_transcript_reader.specs.Reading.{so_far}
use Rattle.irp_live.specs.Sessions.{session_of}
use Rattle.irp_streams.specs.Streams.{streams_of}
use Rattle.irp_live.proofs.Served.{served}
use Rattle.irp_live.proofs.talking.serve.Goals as goal

pub returns : goal.returns
returns g c =
    served (so_far c.args.begun.reading)
    (streams_of (g.R.Read.remaining c.args.input.now) (g.O.Out.gone c.args.output.now) (g.O.Out.failures c.args.output.now))
    (streams_of (g.R.Read.remaining c.args.input.now) (g.O.Out.gone c.accept.new.output) (g.O.Out.failures c.accept.new.output))
    (streams_of (g.R.Read.remaining c.finish.new.input) (g.O.Out.gone c.finish.new.output) (g.O.Out.failures c.finish.new.output))
    (session_of c.new-session.result) c.finish.result c.new-session.ensures.told c.new-session.ensures.stands (refl, c.in-Ok.ensures.ok) c.finish.ensures
