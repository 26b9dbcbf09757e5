-- One more line fits and goes out, or the lines stop there.
use Rattle.std.proofs.Common.{◌∙◌, arith, refl, subst}
use Rattle.std.proofs.lemmas.Result.{err_from_is_err_and}
use Rattle.std.proofs.lemmas.List.Elements.{All-more}
use Rattle.irp_fast_reader.specs.Fits.{LineFits}
use Rattle.irp_fast_reader.proofs.Going.{counts_on, gone_next, nothing, stops_at}
use Rattle.irp_fast_reader.proofs.write.put_lines.Goals as goal

pub loop-place-init : goal.loop-place-init
loop-place-init g c = record { fits = λ k d lt. absurd (omega arith); gone = nothing (g.O.Out.gone c.args.out.now); calm = refl }

pub loop-place-preserved : goal.loop-place-preserved
loop-place-preserved g c =
    let item = c.index-values-place.result in
    let is = c.index-values-place.is in
    let Fits = LineFits (g.T.Fitting.told c.args.header.now) g.T.Written.json in
    record {
      fits = All-more Fits c.args.values.now c.loop-place.place item c.loop-place-test.true c.loop-place.invariant.fits (subst Fits is c.in_ok-put_line.ensures.puts.0);
      gone = gone_next g.T.Written.json c.args.values.now c.loop-place.place item _ _ _ c.loop-place-test.true is c.loop-place.invariant.gone c.in_ok-put_line.ensures.puts.1;
      calm = c.in_ok-put_line.ensures.counts ∙ c.loop-place.invariant.calm;
    }

pub returns-in_err-put_line-clause-puts : goal.returns-in_err-put_line-clause-puts
returns-in_err-put_line-clause-puts g c =
    let p = err_from_is_err_and c.from_residual.result c.from_residual.ensures.1 in
    rw (p.1, p.2) (
    stops_at (g.T.Fitting.told c.args.header.now) g.T.Written.json g.T.Fitting.unfit c.args.values.now c.loop-place.place c.index-values-place.result _ _ _ c.in_err-put_line.field-0.0
    c.loop-place-test.true c.index-values-place.is c.loop-place.invariant.fits c.loop-place.invariant.gone c.in_err-put_line.ensures.puts
    )

pub returns-in_err-put_line-clause-counts : goal.returns-in_err-put_line-clause-counts
returns-in_err-put_line-clause-counts g c =
    let p = err_from_is_err_and c.from_residual.result c.from_residual.ensures.1 in
    rw (p.1, p.2) (counts_on c.in_err-put_line.field-0.0 _ _ _ c.loop-place.invariant.calm c.in_err-put_line.ensures.counts)
