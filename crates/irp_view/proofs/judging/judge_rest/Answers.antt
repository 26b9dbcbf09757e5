-- All lines were taken; or what stopped that.
use Rattle.std.proofs.Common.{refl, sym, subst}
use Rattle.irp_judge.specs.Judges.{seen}
use Rattle.irp_feed.specs.Feeding.{Fails, refused_line}
use Rattle.irp_feed.proofs.Fed.{fails_of}
use Rattle.irp_view.proofs.Judged.{starts_judged}
use Rattle.irp_view.proofs.judging.judge_rest.Goals as goal

pub returns-in-Ok : goal.returns-in-Ok
returns-in-Ok g c = λ old starts.
    (let fed = c.in-Ok.ensures old tt starts
    (starts_judged (seen c.new-judge.result) _ c.args.start.now.header c.new-judge.ensures.header c.new-judge.ensures.judged refl c.new.ensures refl) in
    (fed.0, fed.1, c.found_in.ensures fed.0 fed.2))

pub returns-in-Err : goal.returns-in-Err
returns-in-Err g c = λ old starts.
    (let now = g.R.Read.remaining c.feed_rest.new.input in
    let stops = c.in-Err.ensures old tt starts
    (starts_judged (seen c.new-judge.result) _ c.args.start.now.header c.new-judge.ensures.header c.new-judge.ensures.judged refl c.new.ensures refl) in
    subst (Fails old now) (sym c.unread_behind.ensures) (fails_of (refused_line c.in-Err.unfed) old now stops.0 stops.1))
