-- One more is answered, or nothing more.
use Rattle.std.proofs.Common.{[], refl, inl}
use Rattle.std.proofs.KnownBytes.{Consumes-nil}
use Rattle.irp_live.specs.Sessions.{session_of}
use Rattle.irp_streams.specs.Streams.{streams_of}
use Rattle.irp_live.proofs.Talks.{talked_both}
use Rattle.irp_live.proofs.talking.converse.Goals as goal

pub loop-number-preserved : goal.loop-number-preserved
loop-number-preserved g c =
    let turn = rw c.in-Ok-true.field-0-test at c.in-Ok-true.ensures in (
      talked_both 2 c.loop-number.number _ (session_of c.args.session.now) (session_of c.loop-number.session) (session_of c.turn.new.session)
          (streams_of (g.R.Read.remaining c.args.input.now) (g.O.Out.gone c.args.output.now) (g.O.Out.failures c.args.output.now))
          (streams_of (g.R.Read.remaining c.loop-number.input) (g.O.Out.gone c.loop-number.output) (g.O.Out.failures c.loop-number.output))
          (streams_of (g.R.Read.remaining c.turn.new.input) (g.O.Out.gone c.turn.new.output) (g.O.Out.failures c.turn.new.output))
          c.loop-number.invariant.0 turn.0,
      turn.1,
    )

pub returns-in-Ok-false-clause-conversed : goal.returns-in-Ok-false-clause-conversed
returns-in-Ok-false-clause-conversed g c =
    let turn = rw c.in-Ok-false.field-0-test at c.in-Ok-false.ensures in (
      c.loop-number.number,
      session_of c.loop-number.session,
      streams_of (g.R.Read.remaining c.loop-number.input) (g.O.Out.gone c.loop-number.output) (g.O.Out.failures c.loop-number.output),
      c.loop-number.invariant.0,
      turn,
    )

pub returns-clause-conversed : goal.returns-clause-conversed
returns-clause-conversed g c = (
  c.loop-number.number,
  session_of c.loop-number.session,
  streams_of (g.R.Read.remaining c.loop-number.input) (g.O.Out.gone c.loop-number.output) (g.O.Out.failures c.loop-number.output),
  c.loop-number.invariant.0,
  (([], Consumes-nil (g.R.Read.remaining c.loop-number.input)), inl refl),
)
