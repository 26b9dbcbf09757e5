-- One more line goes out, and a fault stops the lines where it stopped the line.
use Rattle.std.proofs.Common.{ap, ◌∙◌, refl}
use Rattle.std.proofs.lemmas.Result.{err_from_is_err_and}
use Rattle.irp_transcript_writer.specs.Puts.{counts_for}
use Rattle.irp_transcript_writer.proofs.Puts.{sent_none, sent_next, sent_all, stopped_next}
use Rattle.irp_transcript_writer.proofs.write.put_lines.Goals as goal

pub loop-value-init : goal.loop-value-init
loop-value-init g c = record { sent = sent_none c.args.before (g.O.Out.gone c.args.out.now) c.ranges.before.fits; calm = refl }

pub loop-value-preserved : goal.loop-value-preserved
loop-value-preserved g c = record {
  sent = sent_next g.T.Written.json c.args.values.now c.loop-value.value-index c.value-item.result c.args.before _ _ _ _ _
      c.loop-value-test.true c.value-item.is c.loop-value.invariant.sent c.in_ok-written.ensures.0;
  calm = c.in_ok-written.ensures.1 ∙ c.loop-value.invariant.calm;
}

pub returns-in_err-written : goal.returns-in_err-written
returns-in_err-written g c =
    let p = err_from_is_err_and c.from_residual.result c.from_residual.ensures.1 in
    rw (p.1, p.2) (
      stopped_next g.T.Written.json c.args.values.now c.loop-value.value-index c.value-item.result c.args.before _ _ _ _ _
          c.loop-value-test.true c.value-item.is c.loop-value.invariant.sent c.in_err-written.ensures.0,
      c.in_err-written.ensures.1 ∙ ap (counts_for c.in_err-written.field-0.0.cause) c.loop-value.invariant.calm,
    )

pub returns : goal.returns
returns g c = (
  sent_all g.T.Written.json c.args.values.now c.loop-value.value-index c.args.before _ _ _ c.loop-value-test.false c.loop-value.invariant.sent,
  c.loop-value.invariant.calm,
)
