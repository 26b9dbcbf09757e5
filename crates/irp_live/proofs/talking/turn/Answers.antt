-- A line that was read is answered, or its answer breaks off.
use Rattle.std.proofs.Common.{◌≡◌, true, subst}
use Rattle.irp_live.specs.Sessions.{session_of}
use Rattle.irp_streams.specs.Streams.{streams_of}
use Rattle.irp_streams.specs.Writing.{BreaksOff}
use Rattle.irp_live.specs.Streams.{IsRead}
use Rattle.irp_live.proofs.Turns.{exchanged, interrupted}
use Rattle.irp_live.proofs.talking.turn.Goals as goal

pub returns-in-Ok : goal.returns-in-Ok
returns-in-Ok g c =
    let more : c.in_ok-read_line.field-0 ≡ true = c.if-not-branch.false in
    let read = subst (IsRead (g.R.Read.remaining c.args.input.now) (g.R.Read.remaining c.read_line.new.input) c.read_line.new.line.items) more c.in_ok-read_line.ensures.ok in
    let reply = rw c.as_slice.ensures.value at (rw c.in-Some.is at c.in_ok-reply.ensures) in
    let put = rw c.as_slice-in-Some.ensures.value at c.in-Ok.ensures.ok in
    exchanged c.args.number (session_of c.args.session.now) (session_of c.reply.new.self)
    (streams_of (g.R.Read.remaining c.args.input.now) (g.O.Out.gone c.args.output.now) (g.O.Out.failures c.args.output.now))
    (streams_of (g.R.Read.remaining c.read_line.new.input) (g.O.Out.gone c.send.new.output) (g.O.Out.failures c.send.new.output))
    c.read_line.new.line.items c.in-Some.said.items read reply put

pub returns : goal.returns
returns g c =
    let more : c.in_ok-read_line.field-0 ≡ true = c.if-not-branch.false in
    let read = subst (IsRead (g.R.Read.remaining c.args.input.now) (g.R.Read.remaining c.read_line.new.input) c.read_line.new.line.items) more c.in_ok-read_line.ensures.ok in
    let reply = rw c.as_slice.ensures.value at (rw c.in-Some.is at c.in_ok-reply.ensures) in
    let broken = rw c.as_slice-in-Some.ensures.value at c.in-Err.ensures.err in
    let put = subst (BreaksOff c.in-Some.said.items (g.O.Out.gone c.args.output.now) (g.O.Out.gone c.send.new.output)
    (g.O.Out.failures c.args.output.now) (g.O.Out.failures c.send.new.output)) c.in-Err.ensures.fault broken in
    interrupted c.args.number (session_of c.args.session.now) (session_of c.reply.new.self)
    (streams_of (g.R.Read.remaining c.args.input.now) (g.O.Out.gone c.args.output.now) (g.O.Out.failures c.args.output.now))
    (streams_of (g.R.Read.remaining c.read_line.new.input) (g.O.Out.gone c.send.new.output) (g.O.Out.failures c.send.new.output))
    c.read_line.new.line.items c.in-Some.said.items read reply put
