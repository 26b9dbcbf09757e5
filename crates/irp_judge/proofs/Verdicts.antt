-- Beginnings of a legal history are legal, and a verdict is right.
use Rattle.std.proofs.Common.{◌≡◌, ℕ, ◌+◌, ◌<◌, ◌≤◌, suc, zero, List, [], ◌∷◌, take, length, refl, sym, ◌∙◌, ap, subst, arith, Option, Some, None, inl, inr, length-take-le}
use Rattle.std.specs.Prelude.{slice_get, IfOk, Result, Ok, Err}
use Rattle.std.proofs.lemmas.Bool.{cases_lt, cases_eq}
use Rattle.std.proofs.lemmas.List.{take_all, take-take}
use Rattle.std.proofs.lemmas.Option.{slice_get_cases, slice_get_within}
use Rattle.irp_types.specs.State.{StateValue, Fixed, opening_state}
use Rattle.irp_types.specs.Histories.{LeadsThrough, LeadsTo, IsLegal, HistorySettlesStates}
use Rattle.irp_types.specs.declared.entry.Entry.{Entry}
use Rattle.irp_transcript.specs.Headers.{fixed_of}
use Rattle.irp_transcript.specs.declared.header.Header.{Header}
use Rattle.irp_judge.specs.Checked.{IsFirstIllegal, IsVerdict, IsVerdictWith, IsFirstWrongWith, verdict_of}
use Rattle.irp_judge.specs.Replayed.{IsNoEntryAt}
use Rattle.irp_judge.specs.declared.verdict.Wrong.{Wrong}
use Rattle.irp_judge.specs.declared.verdict.Verdict.TheVariants.{Legal, Illegal}

-- what stands in a beginning stands in the whole, and back
get_taken : {X : Type 0} (n : ℕ) (xs : List X) (k : ℕ) → k < n → slice_get (take n xs) k ≡ slice_get xs k
get_taken zero xs k low = absurd (omega (arith, low))
get_taken (suc n) [] k low = refl
get_taken (suc n) (x ∷ xs) zero low = refl
get_taken (suc n) (x ∷ xs) (suc k) low = get_taken n xs k (omega (arith, low))

taken_within : {X : Type 0} (n : ℕ) (xs : List X) (k : ℕ) (x : X) → slice_get (take n xs) k ≡ Some x → k < n
taken_within zero xs k x at = absurd (cc)
taken_within (suc n) [] k x at = absurd (cc)
taken_within (suc n) (first ∷ xs) zero x at = omega arith
taken_within (suc n) (first ∷ xs) (suc k) x at = omega (arith, taken_within n xs k x at)

-- a history of no entries leads to the opening state
pub opens : (fixed : Fixed) → LeadsTo fixed [] opening_state
opens fixed = (
  opening_state ∷ [],
  record {
    longer = refl;
    opens = refl;
    follows = λ number entry old new at from to. absurd (cc);
  },
  refl,
)

-- the first entries lead through the first states
first_states : (fixed : Fixed) (history : List Entry) (states : List StateValue) (n : ℕ) → n ≤ length history → LeadsThrough fixed history states → LeadsThrough fixed (take n history) (take (n + 1) states)
first_states fixed history states n within leads = record {
  longer = length-take-le (n + 1) states (omega (arith, within, leads.longer)) ∙ ap (λ count. count + 1) (sym (length-take-le n history within));
  opens = get_taken (n + 1) states 0 (omega arith) ∙ leads.opens;
  follows = λ number entry old new at from to.
      let low = taken_within n history number entry at in
      leads.follows number entry old new
      (sym (get_taken n history number low) ∙ at)
      (sym (get_taken (n + 1) states number (omega (arith, low))) ∙ from)
      (sym (get_taken (n + 1) states (number + 1) (omega (arith, low))) ∙ to);
}

-- each beginning of a legal history is legal
beginning : (fixed : Fixed) (history : List Entry) (n : ℕ) → IsLegal fixed history → IsLegal fixed (take n history)
beginning fixed history n legal =
    elim (cases_lt (length history) n) as (λ _. IsLegal fixed (take n history)) [
      | inl past ↦ subst (IsLegal fixed) (sym (take_all n history (omega (arith, past)))) legal
      | inr within ↦ (take (n + 1) legal.0, first_states fixed history legal.0 n within legal.1)
    ]

earlier : (fixed : Fixed) (history : List Entry) (m n : ℕ) → m ≤ n → IsLegal fixed (take n history) → IsLegal fixed (take m history)
earlier fixed history m n low legal = subst (IsLegal fixed) (take-take m n history low) (beginning fixed (take n history) m legal)

-- an entry that no step makes of the state that the entries before it lead to isn't legal
pub not_legal : HistorySettlesStates → (fixed : Fixed) (history : List Entry) (at : ℕ) (old : StateValue) (entry : Entry)
    → slice_get history at ≡ Some entry → LeadsTo fixed (take at history) old → IsNoEntryAt fixed at old entry → IsLegal fixed (take (at + 1) history) → ⊥
not_legal settles fixed history at old entry there leads none legal =
    let within : at < length history = slice_get_within history at entry there in
    let longer : length legal.0 ≡ length (take (at + 1) history) + 1 = legal.1.longer in
    let size : length (take (at + 1) history) ≡ at + 1 = length-take-le (at + 1) history (omega (arith, within)) in
    let before : LeadsThrough fixed (take at history) (take (at + 1) legal.0) =
    subst (λ (given : List Entry). LeadsThrough fixed given (take (at + 1) legal.0)) (take-take at (at + 1) history (omega arith)) (first_states fixed (take (at + 1) history) legal.0 at (omega (arith, size)) legal.1) in
    let same : leads.0 ≡ take (at + 1) legal.0 = settles fixed (take at history) leads.0 (take (at + 1) legal.0) leads.1 before in
    let from : slice_get legal.0 at ≡ Some old =
    sym (get_taken (at + 1) legal.0 at (omega arith)) ∙ ap (λ (states : List StateValue). slice_get states at) (sym same) ∙ ap (slice_get leads.0) (sym (length-take-le at history (omega (arith, within)))) ∙ leads.2 in
    elim (slice_get_cases legal.0 (at + 1)).1 as (λ _. ⊥) [
      | inl found ↦ none found.0 (legal.1.follows at entry old found.0 (get_taken (at + 1) history at (omega arith) ∙ there) from found.2)
      | inr past ↦ absurd (omega (arith, past.0, longer, size))
    ]

-- the verdict on a legal history
pub legal_verdict : (fixed : Fixed) (history : List Entry) → IsLegal fixed history → IsVerdict fixed history (Legal (length history))
legal_verdict fixed history legal = record {
  legal = λ entries. (λ same. (legal, cc (same)), λ given. ap Legal (sym given.1));
  illegal = λ at. (λ same. absurd (cc (same)), λ given. absurd (given.1 (beginning fixed history (at + 1) legal)));
}

-- the verdict on one whose first entry that isn't legal stands here
pub illegal_verdict : (fixed : Fixed) (history : List Entry) (at : ℕ) → IsFirstIllegal fixed history at → IsVerdict fixed history (Illegal at)
illegal_verdict fixed history at first = record {
  legal = λ entries. (λ same. absurd (cc (same)), λ given. absurd (first.1 (beginning fixed history (at + 1) given.0)));
  illegal = λ other. (
    λ same. (let is : at ≡ other = cc (same) in subst (IsFirstIllegal fixed history) is first),
    λ given. (elim (cases_eq at other) as (λ _. Illegal at ≡ Illegal other) [
      | inl same ↦ ap Illegal same
      | inr apart ↦ elim (cases_lt at other) as (λ _. Illegal at ≡ Illegal other) [
        | inl low ↦ absurd (first.1 (earlier fixed history (at + 1) other (omega (arith, low)) given.0))
        | inr high ↦ absurd (given.1 (earlier fixed history (other + 1) at (omega (arith, high, apart)) first.0))
      ]
    ]),
  );
}

-- the verdict that goes with what is wrong is right; without a header there are no entries
pub verdict_with : (header : Option Header) (history : List Entry) (wrong : Option Wrong) → (header ≡ None → history ≡ [])
    → IsFirstWrongWith header history wrong → IsVerdictWith header history (verdict_of (length history) wrong)
verdict_with None history wrong bare is = ap (verdict_of (length history)) is ∙ ap (λ (given : List Entry). Legal (length given)) (bare refl)
verdict_with (Some header) history None bare legal = legal_verdict (fixed_of header) history legal
verdict_with (Some header) history (Some wrong) bare is = illegal_verdict (fixed_of header) history wrong.at is.first

-- the same of what was found, if memory was there
pub verdict_where_ok : {E : Type 0} (header : Option Header) (history : List Entry) (result : Result (Option Wrong) E) → (header ≡ None → history ≡ [])
    → IfOk result (λ wrong. IsFirstWrongWith header history wrong) → IfOk result (λ wrong. IsVerdictWith header history (verdict_of (length history) wrong))
verdict_where_ok header history (Ok wrong) bare is = verdict_with header history wrong bare is
verdict_where_ok header history (Err failed) bare is = is
