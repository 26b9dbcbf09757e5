-- A transcript that is judged line after line.
use Rattle.std.proofs.Common.{◌≡◌, suc, zero, inl, inr, true, false, is_some, slice_get, ◌∷◌, ℕ, ◌+◌, ◌<◌, ◌≤◌, List, [], ◌++◌, length, IfOk, OnOk, MatchResult, Option, Some, None, Result, Ok, Err, refl, sym, subst, ap, ◌∙◌, arith, length-append}
use Rattle.std.proofs.lemmas.Bool.{cases_lt}
use Rattle.std.proofs.lemmas.List.{take-append-le}
use Rattle.std.proofs.lemmas.Option.{none-some, slice_get_within}
use Rattle.std.specs.Borrow.{Bor}
use Rattle.std.specs.Option.{option_copied}
use Rattle.irp_judge.specs.Judging.{HasJudged, JudgeValue}
use Rattle.irp_transcript.specs.Headers.{fixed_of}
use Rattle.irp_transcript.specs.Transcripts.{TranscriptValue, no_lines}
use Rattle.irp_transcript.specs.declared.header.Header.{Header}
use Rattle.irp_fast_reader.specs.Fed.{IsInPlace}
use Rattle.irp_transcript_reader.specs.Reading.{with_line}
use Rattle.irp_transcript_reader.specs.declared.line.Line.{Line}
use Rattle.irp_feed.specs.Feeding.{header_alone}
use Rattle.irp_feed.specs.Input.{Bytes}
use Rattle.irp_feed.proofs.Fed.{header_stays}
use Rattle.irp_judge.specs.declared.verdict.Verdict.TheVariants.{Illegal}
use Rattle.irp_types.specs.declared.entry.Entry.{Entry}
use Rattle.irp_types.specs.State.{Fixed}
use Rattle.irp_types.specs.Histories.{IsLegal}
use Rattle.irp_judge.specs.Checked.{IsExplained, IsFirstIllegal, IsFirstWrong, IsFirstWrongWith, verdict_of}
use Rattle.irp_judge.specs.declared.verdict.Wrong.{Wrong}
use Rattle.irp_judge.proofs.Feeding.{wrong_stays}
use Rattle.irp_judge.proofs.Verdicts.{illegal_verdict, legal_verdict, verdict_with}
use Rattle.irp_view.specs.Judging.{IsFound, IsJudged, IsKept}
use Rattle.irp_view.specs.RefusedCalls.{HasNoted}
use Rattle.irp_view.specs.declared.refused_calls.RefusedCalls.{RefusedCalls}
use Rattle.irp_view.specs.declared.judging.Found.{Found}
use Rattle.irp_view.specs.declared.judging.Judged.{Judged}
use Rattle.irp_view.specs.declared.judging.Kept.{Kept}
use Rattle.irp_view.specs.declared.reading.Unread.{Unread}

-- ---- what is kept of entries

pub copied_some : {T : Type 0} (given : Option (Bor T)) → is_some (option_copied given) ≡ is_some given
copied_some None = refl
copied_some (Some it) = refl

slice_last : (xs : List Entry) (entry : Entry) → slice_get (xs ++ entry ∷ []) (length xs) ≡ Some entry
slice_last [] entry = refl
slice_last (x ∷ xs) entry = slice_last xs entry

slice_front : (xs ys : List Entry) (at : ℕ) (entry : Entry) → slice_get xs at ≡ Some entry → slice_get (xs ++ ys) at ≡ Some entry
slice_front [] ys at entry there = absurd (cc (there))
slice_front (x ∷ xs) ys zero entry there = there
slice_front (x ∷ xs) ys (suc at) entry there = slice_front xs ys at entry there

-- what is wrong is so at one place
same_place : (fixed : Fixed) (history : List Entry) (at other : ℕ) → IsFirstIllegal fixed history at → IsFirstIllegal fixed history other → at ≡ other
same_place fixed history at other first second =
    let same : Illegal at ≡ Illegal other = ((illegal_verdict fixed history at first).illegal other).1 second in
    cc (same)

not_within : (fixed : Fixed) (history : List Entry) (entry : Entry) (at : ℕ) → IsLegal fixed history → IsFirstIllegal fixed (history ++ entry ∷ []) at → length history ≤ at
not_within fixed history entry at legal first =
    elim (cases_lt at (length history)) as (λ _. length history ≤ at) [
      | inl low ↦ absurd (cc (((legal_verdict fixed history legal).illegal at).1 (
        subst (IsLegal fixed) (take-append-le at history (entry ∷ []) (omega (arith, low))) first.0,
        λ more. first.1 (subst (IsLegal fixed) (sym (take-append-le (at + 1) history (entry ∷ []) (omega (arith, low)))) more),
      )))
      | inr high ↦ omega (arith, high)
    ]

-- an entry behind none that is wrong
pub keeps_new : (fixed : Fixed) (history : List Entry) (entry : Entry) (wrong : Option Wrong) → IsLegal fixed history → IsFirstWrong fixed (history ++ entry ∷ []) wrong
    → IsKept (history ++ entry ∷ []) wrong (Some entry)
keeps_new fixed history entry None legal is = tt
keeps_new fixed history entry (Some wrong) legal is =
    let low : length history ≤ wrong.at = not_within fixed history entry wrong.at legal is.first in
    let high : wrong.at < length (history ++ entry ∷ []) = slice_get_within (history ++ entry ∷ []) wrong.at is.entry is.there in
    let same : wrong.at ≡ length history = omega (arith, low, high, length-append history (entry ∷ [])) in
    ap (slice_get (history ++ entry ∷ [])) same ∙ slice_last history entry

-- one behind the one that is wrong
pub keeps_old : (fixed : Fixed) (history : List Entry) (entry : Entry) (before : Wrong) (wrong : Option Wrong) (kept : Option Entry) → IsFirstWrong fixed history (Some before)
    → IsKept history (Some before) kept → IsFirstWrong fixed (history ++ entry ∷ []) wrong → IsKept (history ++ entry ∷ []) wrong kept
keeps_old fixed history entry before None kept was there is = tt
keeps_old fixed history entry before (Some wrong) kept was there is =
    let same : wrong.at ≡ before.at = same_place fixed (history ++ entry ∷ []) wrong.at before.at is.first (wrong_stays fixed history entry before was).first in
    ap (slice_get (history ++ entry ∷ [])) same ∙ slice_front history (entry ∷ []) before.at was.entry was.there ∙ sym was.there ∙ there

now_wrong : (old new : JudgeValue) (history : List Entry) → new.header ≡ old.header → HasJudged new history → IsFirstWrong (fixed_of old.header) history new.wrong
now_wrong old new history header is = subst (λ (given : Header). IsFirstWrong (fixed_of given) history new.wrong) header is.wrong

first_by : (fixed : Fixed) (history : List Entry) (entry : Entry) (before wrong : Option Wrong) → is_some before ≡ false → IsFirstWrong fixed history before
    → IsFirstWrong fixed (history ++ entry ∷ []) wrong → IsKept (history ++ entry ∷ []) wrong (Some entry)
first_by fixed history entry None wrong none was is = keeps_new fixed history entry wrong was is
first_by fixed history entry (Some before) wrong none was is = absurd (cc (none))

still_by : (fixed : Fixed) (history : List Entry) (entry : Entry) (before wrong : Option Wrong) (kept : Option Entry) → is_some before ≡ true → IsFirstWrong fixed history before
    → IsKept history before kept → IsFirstWrong fixed (history ++ entry ∷ []) wrong → IsKept (history ++ entry ∷ []) wrong kept
still_by fixed history entry None wrong kept some was there is = absurd (cc (some))
still_by fixed history entry (Some before) wrong kept some was there is = keeps_old fixed history entry before wrong kept was there is

-- by whether something was wrong
pub keeps_first : (old new : JudgeValue) (history : List Entry) (entry : Entry) → new.header ≡ old.header → HasJudged old history → HasJudged new (history ++ entry ∷ [])
    → is_some old.wrong ≡ false → IsKept (history ++ entry ∷ []) new.wrong (Some entry)
keeps_first old new history entry header was is none =
    first_by (fixed_of old.header) history entry old.wrong new.wrong none was.wrong (now_wrong old new (history ++ entry ∷ []) header is)

pub keeps_still : (old new : JudgeValue) (history : List Entry) (entry : Entry) (kept : Option Entry) → new.header ≡ old.header → HasJudged old history
    → HasJudged new (history ++ entry ∷ []) → IsKept history old.wrong kept → is_some old.wrong ≡ true → IsKept (history ++ entry ∷ []) new.wrong kept
keeps_still old new history entry kept header was is there some =
    still_by (fixed_of old.header) history entry old.wrong new.wrong kept some was.wrong there (now_wrong old new (history ++ entry ∷ []) header is)

-- ---- what was found

kept_none : (wrong : Option Wrong) → IsKept [] wrong None
kept_none None = tt
kept_none (Some wrong) = refl

-- behind the header nothing was judged
pub starts_judged : (judge : JudgeValue) (kept : Kept) (header : Header) → judge.header ≡ header → HasJudged judge [] → kept.words ≡ 0
    → HasNoted kept.refused [] → kept.entry ≡ None → IsJudged judge kept (header_alone header)
starts_judged judge kept header same judged words noted none = record {
  header = subst (λ (given : Header). Some header ≡ Some given) (sym same) refl;
  judged = judged;
  entry = subst (IsKept [] judge.wrong) (sym none) (kept_none judge.wrong);
  words = words;
  noted = noted;
}

-- one line more was taken
pub judged_on : {E : Type 0} (result : Result (Unit {0}) E) (old new : JudgeValue) (kept then : Kept) (before : TranscriptValue) (line : Line)
    → IsJudged old kept before → IsInPlace before line → new.header ≡ old.header → HasNoted then.refused (with_line before line).entries
    → OnOk result (HasJudged new (with_line before line).entries × IsKept (with_line before line).entries new.wrong then.entry × (then.words ≡ length (with_line before line).words))
    → MatchResult result (λ done. IsJudged new then (with_line before line)) (λ error. Unit {0})
judged_on (Ok done) old new kept then before line was place header noted fed = record {
  header = header_stays before line old.header place was.header ∙ ap (λ (given : Header). Some given) (sym header);
  judged = fed.0;
  entry = fed.1;
  words = fed.2;
  noted = noted;
}
judged_on (Err fault) old new kept then before line was place header noted fed = tt

some_header : (known : Option Header) (header : Header) (entries : List Entry) → known ≡ Some header → known ≡ None → entries ≡ []
some_header known header entries is none = absurd (none-some header (sym none ∙ is))

pub finds : (judge : JudgeValue) (kept : Kept) (transcript : TranscriptValue) (found : Found) → IsJudged judge kept transcript
    → found.entries ≡ judge.fed → found.words ≡ kept.words → found.wrong ≡ judge.wrong → found.entry ≡ kept.entry
    → found.refused ≡ kept.refused → IsFound transcript found
finds judge kept transcript found are entries words wrong entry refused =
    let of_judge : IsFirstWrongWith (Some judge.header) transcript.entries judge.wrong = are.judged.wrong in
    let explained : IsExplained transcript found.wrong =
    subst (λ (given : Option Header). IsFirstWrongWith given transcript.entries found.wrong) (sym are.header)
    (subst (λ (given : Option Wrong). IsFirstWrongWith (Some judge.header) transcript.entries given) (sym wrong) of_judge) in
    let there : IsKept transcript.entries found.wrong kept.entry = subst (λ (given : Option Wrong). IsKept transcript.entries given kept.entry) (sym wrong) are.entry in
    record {
      entries = entries ∙ are.judged.counted;
      words = words ∙ are.words;
      explained = explained;
      judged = verdict_with transcript.header transcript.entries found.wrong
          (some_header transcript.header judge.header transcript.entries are.header) explained;
      entry = subst (IsKept transcript.entries found.wrong) (sym entry) there;
      noted = subst (λ (given : RefusedCalls). HasNoted given transcript.entries) (sym refused) are.noted;
    }

-- a text without lines
pub finds_nothing : (found : Found) → found.entries ≡ 0 → found.words ≡ 0 → found.wrong ≡ None → HasNoted found.refused [] → IsFound no_lines found
finds_nothing found entries words wrong noted = record {
  entries = entries;
  words = words;
  explained = wrong;
  judged = ap (verdict_of 0) wrong;
  entry = subst (λ (given : Option Wrong). IsKept [] given found.entry) (sym wrong) tt;
  noted = noted;
}
