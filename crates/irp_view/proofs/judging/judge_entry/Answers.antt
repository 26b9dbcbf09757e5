-- The entry is kept unless one before it is wrong.
use Rattle.std.proofs.Common.{ap, sym, ◌∙◌, is_some}
use Rattle.irp_judge.specs.Judges.{seen}
use Rattle.irp_view.proofs.Judged.{copied_some, keeps_first, keeps_still}
use Rattle.irp_view.proofs.judging.judge_entry.Goals as goal

pub returns-then-not-found-clause-judged : goal.returns-then-not-found-clause-judged
returns-then-not-found-clause-judged c = λ history was there few.
    (let judged = c.in_ok-feed.ensures.judged history was few in
    (judged, keeps_first (seen c.args.judge.now) (seen c.feed.new.self) history c.args.entry c.in_ok-feed.ensures.header was judged (sym (ap is_some c.wrong.ensures) ∙ (copied_some c.wrong.result ∙ sym c.is_some-found.ensures ∙ c.if-not-found.true))))

pub returns-else-not-found-clause-judged : goal.returns-else-not-found-clause-judged
returns-else-not-found-clause-judged c = λ history was there few.
    (let judged = c.in_ok-feed.ensures.judged history was few in
    (judged, keeps_still (seen c.args.judge.now) (seen c.feed.new.self) history c.args.entry c.args.kept.now.entry c.in_ok-feed.ensures.header was judged there (sym (ap is_some c.wrong.ensures) ∙ (copied_some c.wrong.result ∙ sym c.is_some-found.ensures ∙ c.if-not-found.false))))
