-- What is said of a script that was read is so of this input; where there is none nothing went out.
use Rattle.std.proofs.Common.{inl, refl, sym, subst}
use Rattle.std.proofs.lemmas.Result.{err_from_is_err_and}
use Rattle.irpx.specs.Running.{NoScript}
use Rattle.irpx.proofs.Pieces.{keeps_itself}
use Rattle.irpx.proofs.running.run.Goals as goal

pub returns-clause-after : goal.returns-clause-after
returns-clause-after g c = c.run_read.ensures _ _ c.in_ok-script.ensures.ok

pub returns-in_err-script-clause-after : goal.returns-in_err-script-clause-after
returns-in_err-script-clause-after g c =
    let p = err_from_is_err_and c.from_residual.result c.from_residual.ensures.1 in
    rw p.1
    (inl (
      subst (NoScript (g.R.Read.remaining c.args.input.now) (g.R.Read.remaining c.script_of.new.input)) (sym p.2) c.in_err-script.ensures.err,
      (keeps_itself (g.O.Out.gone c.args.output.now), refl),
    ))
