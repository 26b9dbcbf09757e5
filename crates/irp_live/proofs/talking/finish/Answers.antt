-- The lines were answered, and the verdict was cut.
use Rattle.std.proofs.Common.{inr, refl}
use Rattle.irp_live.specs.Sessions.{session_of}
use Rattle.irp_streams.specs.Streams.{streams_of}
use Rattle.irp_live.proofs.talking.finish.Goals as goal

pub returns-in-Err-tell : goal.returns-in-Err-tell
returns-in-Err-tell g c =
    inr (
      session_of c.converse.new.session,
      streams_of (g.R.Read.remaining c.converse.new.input) (g.O.Out.gone c.converse.new.output) (g.O.Out.failures c.converse.new.output),
      c.verdict-verdict.result,
      c.in-Ok.ensures.conversed,
      c.verdict-verdict.ensures,
      (refl, c.in-Err-tell.ensures.err),
    )
