-- What a judge has judged, once it is fed one more entry.
use Rattle.std.proofs.Common.{◌≡◌, ℕ, ◌+◌, true, false, is_some, List, [], ◌∷◌, ◌++◌, length, refl, sym, subst, arith, Option, Some, None, length-append}
use mathlib.Core.Bool.{true≢false}
use Rattle.irp_types.specs.State.{StateValue, Fixed, opening_state}
use Rattle.irp_types.specs.Histories.{LeadsTo, HistoryGoesOn, HistorySettlesStates}
use Rattle.irp_types.specs.declared.entry.Entry.{Entry}
use Rattle.irp_transcript.specs.Headers.{fixed_of}
use Rattle.irp_transcript.specs.declared.header.Header.{Header}
use Rattle.irp_judge.specs.Checked.{IsFirstWrong, IsVerdict, verdict_of}
use Rattle.irp_judge.specs.Judging.{JudgeValue, HasJudged, followed}
use Rattle.irp_judge.specs.Replayed.{IsMadeOf}
use Rattle.irp_judge.specs.declared.verdict.Wrong.{Wrong}
use Rattle.irp_judge.proofs.Feeding.{IsRefuted, right_leads, wrong_here, wrong_leads, wrong_stays, followed_stays}
use Rattle.irp_judge.proofs.Verdicts.{opens, legal_verdict, illegal_verdict}

-- before the first entry
pub judged_nothing : (header : Header) (state : StateValue) → state ≡ opening_state
    → HasJudged (record { header = header; fed = 0; wrong = None; state = state }) []
judged_nothing header state is =
    let leads : LeadsTo (fixed_of header) [] state = subst (LeadsTo (fixed_of header) []) (sym is) (opens (fixed_of header)) in
    record { counted = refl; wrong = (leads.0, leads.1); state = leads }

-- where nothing was wrong, the state is behind all entries
pub leads_all : (judge : JudgeValue) (history : List Entry) → HasJudged judge history → judge.wrong ≡ None → LeadsTo (fixed_of judge.header) history judge.state
leads_all judge history has none =
    subst (λ (wrong : Option Wrong). LeadsTo (fixed_of judge.header) (followed history wrong) judge.state) none has.state

more : (history : List Entry) (entry : Entry) (fed : ℕ) → fed ≡ length history → fed + 1 ≡ length (history ++ entry ∷ [])
more history entry fed is = omega (arith, is, length-append history (entry ∷ []))

-- an entry that is made again
pub judged_right : HistoryGoesOn → HistorySettlesStates → (judge : JudgeValue) (history : List Entry) (entry made : Entry) (new : StateValue)
    → HasJudged judge history → judge.wrong ≡ None → IsMadeOf (fixed_of judge.header) judge.fed judge.state entry made new → entry ≡ made
    → HasJudged (record { header = judge.header; fed = judge.fed + 1; wrong = None; state = new }) (history ++ entry ∷ [])
judged_right goes_on settles judge history entry made new has none is same =
    let leads = right_leads goes_on settles (fixed_of judge.header) history judge.state new entry made judge.fed has.counted (leads_all judge history has none) is same in
    record { counted = more history entry judge.fed has.counted; wrong = (leads.0, leads.1); state = leads }

-- one that isn't
pub judged_wrong : HistoryGoesOn → HistorySettlesStates → (judge : JudgeValue) (history : List Entry) (entry : Entry) (wrong : Wrong) (new : StateValue)
    → HasJudged judge history → IsRefuted (fixed_of judge.header) history judge.state new entry wrong
    → HasJudged (record { header = judge.header; fed = judge.fed + 1; wrong = Some wrong; state = new }) (history ++ entry ∷ [])
judged_wrong goes_on settles judge history entry wrong new has is =
    let fixed : Fixed = fixed_of judge.header in
    record {
      counted = more history entry judge.fed has.counted;
      wrong = wrong_here goes_on settles fixed history judge.state new entry wrong is;
      state = wrong_leads goes_on settles fixed history judge.state new entry wrong is;
    }

-- one behind what was wrong
pub judged_behind : (judge : JudgeValue) (history : List Entry) (entry : Entry) (wrong : Wrong) → HasJudged judge history → judge.wrong ≡ Some wrong
    → HasJudged (record { header = judge.header; fed = judge.fed + 1; wrong = judge.wrong; state = judge.state }) (history ++ entry ∷ [])
judged_behind judge history entry wrong has is =
    let fixed : Fixed = fixed_of judge.header in
    let first = subst (λ (given : Option Wrong). IsFirstWrong fixed history given) is has.wrong in
    let leads = subst (λ (given : Option Wrong). LeadsTo fixed (followed history given) judge.state) is has.state in
    record {
      counted = more history entry judge.fed has.counted;
      wrong = subst (λ (given : Option Wrong). IsFirstWrong fixed (history ++ entry ∷ []) given) (sym is) (wrong_stays fixed history entry wrong first);
      state = subst (λ (given : Option Wrong). LeadsTo fixed (followed (history ++ entry ∷ []) given) judge.state) (sym is)
          (subst (λ (given : List Entry). LeadsTo fixed given judge.state) (sym (followed_stays fixed history entry wrong first)) leads);
    }

-- the verdict that goes with it
pub judged_verdict : (judge : JudgeValue) (history : List Entry) (wrong : Option Wrong) → HasJudged judge history → judge.wrong ≡ wrong
    → IsVerdict (fixed_of judge.header) history (verdict_of judge.fed wrong)
judged_verdict judge history None has is =
    subst (λ (count : ℕ). IsVerdict (fixed_of judge.header) history (verdict_of count None)) (sym has.counted)
    (legal_verdict (fixed_of judge.header) history (subst (λ (given : Option Wrong). IsFirstWrong (fixed_of judge.header) history given) is has.wrong))
judged_verdict judge history (Some wrong) has is =
    let first = subst (λ (given : Option Wrong). IsFirstWrong (fixed_of judge.header) history given) is has.wrong in
    illegal_verdict (fixed_of judge.header) history wrong.at first.first

-- whether something was wrong
pub some_is : (wrong : Option Wrong) → is_some wrong ≡ true → (found : Wrong) × (wrong ≡ Some found)
some_is None is = absurd (true≢false (sym is))
some_is (Some found) is = (found, refl)

pub none_is : (wrong : Option Wrong) → is_some wrong ≡ false → wrong ≡ None
none_is None is = refl
none_is (Some found) is = absurd (true≢false is)
