use Rattle.std.proofs.Common.{◌≡◌, List, rules, sym, ap, ◌∙◌, subst}
use Rattle.irp_types.specs.State.{Fixed}
use Rattle.irp_types.specs.declared.entry.Entry.{Entry}
use Rattle.irp_types.specs.Histories.{IsLegal}
use Rattle.irp_manager.specs.Booked.{Booked}
use Rattle.irp_shared.specs.Answered.{AnswersSo, EachAnswered}
use Rattle.irp_shared.proofs.Answering.{answered_more, either_way}
use Rattle.irp_shared.proofs.locked.Locked.call.Goals as goal

pub returns-in_err-receipt-clause-behind : goal.returns-in_err-receipt-clause-behind
returns-in_err-receipt-clause-behind g c = λ told. (
  λ is. (c.in_err-receipt.ensures.behind told).0 (search rules),
  λ behind. let was = (c.in_err-receipt.ensures.behind told).1 behind in search rules,
)

pub returns-clause-called : goal.returns-clause-called
returns-clause-called g c = c.in_ok-receipt.ensures.recorded.called

pub returns-clause-legal : goal.returns-clause-legal
returns-clause-legal g c =
    let kept = c.in_ok-receipt.ensures.kept in
    subst (λ (fixed : Fixed). IsLegal fixed c.call.new.self.history) (kept.1 ∙ c.args.self.now.fixed) c.in_ok-receipt.ensures.legal

pub returns-in_err-receipt-clause-finds : goal.returns-in_err-receipt-clause-finds
returns-in_err-receipt-clause-finds g c = λ is.
    let full = (c.in_err-receipt.ensures.full).0 (search rules) in
    let kept = c.in_err-receipt.ensures.kept in
    let same : c.call.new.self.history ≡ c.args.self.now.book.history = ap (λ (book : Booked g.row.A.Denot). book.history) c.in_err-receipt.ensures.err.0 in
    record {
      history = c.args.self.now.book.history;
      legal = subst (λ (given : Fixed × List Entry). IsLegal given.0 given.1) (λ i. ((kept.1 ∙ c.args.self.now.fixed) i, same i)) c.in_err-receipt.ensures.legal;
      answered = c.args.self.now.answered;
      reached = full.0;
      full = full.1;
    }

pub invariant_of-self : goal.invariant_of-self
invariant_of-self g c =
    let old = c.args.self.now in
    let now = c.call.new.self in
    let kept = c.call.ensures.kept in
    record {
      no_parts = old.no_parts;
      no_amount = old.no_amount;
      fixed = kept.1 ∙ old.fixed;
      tables = ap g.A.Ask.tables kept.0 ∙ old.tables ∙ ap (λ (fixed : Fixed). fixed.tables) (sym kept.1);
      answers = subst (λ (ask : g.row.A.Denot). AnswersSo (g.A.Ask.may_plan ask) (g.A.Ask.may_answer ask) (g.A.Ask.may_cancel ask) g.L.Session.may) (sym kept.0) old.answers;
      answered =
          either_way {Goal = EachAnswered g.L.Session.may now.history} _ c.call.result c.call.ensures.recorded c.call.ensures.err
          (λ receipt recorded. answered_more _ _ _ _ _ _ old.book.history now.history recorded.called.entry recorded.called.appended recorded.answered old.tables old.answers old.answered)
          (λ same. subst (λ (book : Booked g.row.A.Denot). EachAnswered g.L.Session.may book.history) (sym same.0) old.answered);
    }
