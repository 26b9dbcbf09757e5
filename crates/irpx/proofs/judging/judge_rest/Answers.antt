-- All lines were taken; or what stopped that.
use Rattle.std.proofs.Common.{sym, subst}
use Rattle.irp_judge.specs.Judges.{seen}
use Rattle.irpx.specs.Judging.{Fails}
use Rattle.irpx.proofs.Judged.{starts_judged, stops_so, verdict_on}
use Rattle.irpx.proofs.judging.judge_rest.Goals as goal

pub returns-in-Ok : goal.returns-in-Ok
returns-in-Ok g c = λ old starts.
    (let fed = c.in-Ok.ensures old tt starts (starts_judged (seen c.new-judge.result) c.args.start.now.header c.new-judge.ensures.header c.new-judge.ensures.judged) in
    verdict_on (seen c.feed_rest.new.sink.judge) c.verdict.result old (g.R.Read.remaining c.feed_rest.new.input) fed.0 fed.1 fed.2 (c.verdict.ensures fed.0.entries fed.2.judged))

pub returns : goal.returns
returns g c = λ old starts.
    (let fails = c.in-Err.ensures old tt starts (starts_judged (seen c.new-judge.result) c.args.start.now.header c.new-judge.ensures.header c.new-judge.ensures.judged) in
    subst (Fails old (g.R.Read.remaining c.feed_rest.new.input)) (sym c.refusal.ensures) (stops_so c.in-Err.unfed old (g.R.Read.remaining c.feed_rest.new.input) fails.0 fails.1))
