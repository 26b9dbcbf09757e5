use Rattle.std.proofs.Common.{◌≡◌, ◌+◌, List, [], ◌∷◌, ◌++◌, Option, None, sym, subst, ◌∙◌}
use Rattle.irp_types.specs.declared.entry.Entry.{Entry}
use Rattle.irp_manager.specs.Keeps.{mapped}
use Rattle.irp_manager.specs.ManagerStates.{state_of}
use Rattle.irp_judge.specs.Judges.{seen}
use Rattle.irp_judge.specs.Judging.{JudgeValue, HasJudged}
use Rattle.irp_judge.specs.declared.verdict.Wrong.{Wrong}
use Rattle.irp_judge.proofs.Judged.{leads_all, judged_right, judged_wrong, judged_behind, some_is, none_is}
use Rattle.irp_judge.proofs.judge.Judge.make_again.Goals as goal

pub returns-then-is_some-clause-judged : goal.returns-then-is_some-clause-judged
returns-then-is_some-clause-judged c = λ history has.
    let was = some_is c.args.self.now.wrong (sym c.is_some.ensures ∙ c.if-is_some.true) in
    judged_behind (seen c.args.self.now) history c.args.entry.now was.0 has was.1

pub returns-in_default-clause-judged : goal.returns-in_default-clause-judged
returns-in_default-clause-judged c = λ history has.
    let judge : JudgeValue = seen c.args.self.now in
    let new = state_of mapped c.made_of.new.core in
    let none : c.args.self.now.wrong ≡ None = none_is c.args.self.now.wrong (sym c.is_some.ensures ∙ c.if-is_some.false) in
    let longer : List Entry = history ++ c.args.entry.now ∷ [] in
    subst (λ (wrong : Option Wrong). HasJudged (record { header = judge.header; fed = judge.fed + 1; wrong = wrong; state = new }) longer) (sym none)
    (judged_right c.history_goes_on.ensures c.history_settles_states.ensures judge history c.args.entry.now c.in_ok-made.made new
    has none c.in_ok-made.ensures.made (c.first_difference.ensures.none.0 c.in_default.is))

pub returns-clause-judged : goal.returns-clause-judged
returns-clause-judged c = λ history has.
    let judge : JudgeValue = seen c.args.self.now in
    let none : judge.wrong ≡ None = none_is c.args.self.now.wrong (sym c.is_some.ensures ∙ c.if-is_some.false) in
    let wrong : Wrong = record { at = judge.fed; difference = c.in-Some.difference; cause = c.cause_in.result; made = c.in_ok-made.made } in
    judged_wrong c.history_goes_on.ensures c.history_settles_states.ensures judge history c.args.entry.now wrong (state_of mapped c.made_of.new.core) has
    (record {
      place = has.counted;
      stands = c.args.self.now.stands;
      leads = leads_all judge history has none;
      made = c.in_ok-made.ensures.made;
      differs = c.in-Some.ensures.some;
      apart = λ same. (let none = c.in-Some.ensures.none.1 same in absurd (cc));
      cause = c.cause_in.ensures;
    })
