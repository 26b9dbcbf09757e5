-- Without a line the verdict on no entries goes out, or is cut.
use Rattle.std.proofs.Common.{inl, inr, refl}
use Rattle.irp_streams.specs.Streams.{streams_of}
use Rattle.irp_live.proofs.talking.live.Goals as goal

pub returns-in-Ok : goal.returns-in-Ok
returns-in-Ok g c =
    let read = rw c.in-Ok-false.field-0-test at c.in-Ok-false.ensures.ok in
    inr (inl (
      c.read_line.new.line.items,
      streams_of (g.R.Read.remaining c.read_line.new.input) (g.O.Out.gone c.args.output.now) (g.O.Out.failures c.args.output.now),
      record { read = read; quiet = refl },
      (refl, (refl, c.in-Ok.ensures.ok)),
    ))

pub returns-in-Ok-false : goal.returns-in-Ok-false
returns-in-Ok-false g c =
    let read = rw c.in-Ok-false.field-0-test at c.in-Ok-false.ensures.ok in
    inr (inl (
      c.read_line.new.line.items,
      streams_of (g.R.Read.remaining c.read_line.new.input) (g.O.Out.gone c.args.output.now) (g.O.Out.failures c.args.output.now),
      record { read = read; quiet = refl },
      (refl, c.in-Err-tell.ensures.err),
    ))
