-- Each line so far was answered.
use Rattle.irp_live.specs.Sessions.{Stands, session_of}
use Rattle.irp_streams.specs.Streams.{streams_of}
use Rattle.irp_live.specs.Talking.{Talked}
use Rattle.irp_live.proofs.talking.converse.Given as goal

abbrev pub invariant-loop-number : goal.invariant-loop-number
invariant-loop-number g l =
    Talked 2 (session_of l.fn.session)
    (streams_of (g.R.Read.remaining l.fn.input) (g.O.Out.gone l.fn.output) (g.O.Out.failures l.fn.output)) l.number (session_of l.session)
    (streams_of (g.R.Read.remaining l.input) (g.O.Out.gone l.output) (g.O.Out.failures l.output))
    × Stands (session_of l.session)
