-- Which transcripts are legal, and what is wrong with one that isn't.
use Rattle.std.specs.Prelude.{⊤, ℕ, ◌≡◌, ◌+◌, false, List, [], ◌∷◌, ◌++◌, take, length, slice_get, Option, Some, None, ◌↔◌}
use Rattle.irp_judge.specs.Differences.{Differs}
use Rattle.irp_types.specs.State.{Fixed, StateValue, Tables}
use Rattle.irp_types.specs.declared.asked.Asked.{Asked}
use Rattle.irp_types.specs.Histories.{IsLegal, LeadsTo}
use Rattle.irp_types.specs.declared.entry.Entry.{Entry}
use Rattle.irp_transcript.specs.Headers.{fixed_of}
use Rattle.irp_transcript.specs.Transcripts.{TranscriptValue}
use Rattle.irp_transcript.specs.declared.header.Header.{Header}
use Rattle.irp_judge.specs.declared.difference.QuestionPart.{QuestionPart}
use Rattle.irp_judge.specs.declared.difference.QuestionPart.TheVariants as part
use Rattle.irp_judge.specs.declared.difference.Difference.{Difference}
use Rattle.irp_judge.specs.declared.difference.Difference.TheVariants as kind
use Rattle.irp_judge.specs.Answers.{is_answer_allowed}
use Rattle.irp_judge.specs.Causes.{cause_in}
use Rattle.irp_judge.specs.Recorded.{AreTold}
use Rattle.irp_judge.specs.Replayed.{IsDrainedTold, IsSlotTold}
use Rattle.irp_judge.specs.declared.verdict.Wrong.{Wrong}
use Rattle.irp_judge.specs.declared.verdict.Verdict.{Verdict}
use Rattle.irp_judge.specs.declared.verdict.Verdict.TheVariants.{Legal, Illegal}

-- the entry at this place is the first that isn't legal: those before it are a history that the sequential manager
-- could have made, and those up to it aren't
abbrev pub IsFirstIllegal : Fixed → List Entry → ℕ → Type 0
IsFirstIllegal fixed history at = IsLegal fixed (take at history) × (IsLegal fixed (take (at + 1) history) → ⊥)

-- the verdict on a history: Legal, with the number of its entries, exactly where the sequential manager could have made
-- it, and Illegal exactly with the place of the first entry that isn't legal
pub record IsVerdict (fixed : Fixed) (history : List Entry) (verdict : Verdict) : Type 0 where
  pub legal : (entries : ℕ) → (verdict ≡ Legal entries) ↔ (IsLegal fixed history × (entries ≡ length history))
  pub illegal : (at : ℕ) → (verdict ≡ Illegal at) ↔ IsFirstIllegal fixed history at

-- the verdict on a history with what its header fixes; a transcript without a header has no entries, and is legal
abbrev pub IsVerdictWith : Option Header → List Entry → Verdict → Type 0
IsVerdictWith None history verdict = verdict ≡ Legal 0
IsVerdictWith (Some header) history verdict = IsVerdict (fixed_of header) history verdict

-- the verdict on a transcript
abbrev pub IsVerdictOn : TranscriptValue → Verdict → Type 0
IsVerdictOn transcript verdict = IsVerdictWith transcript.header transcript.entries verdict

-- where a question differs in its answer alone, the tables don't allow the answer; the same of two entries
abbrev pub IsPartUnallowed : Tables → ℕ → QuestionPart → List Asked → Type 0
IsPartUnallowed tables at part.Answer asked =
    (question : Asked) → slice_get asked at ≡ Some question → is_answer_allowed tables question ≡ false
IsPartUnallowed tables at other asked = ⊤

abbrev pub IsUnallowed : Tables → Difference → List Asked → Type 0
IsUnallowed tables (kind.Question at part) asked = IsPartUnallowed tables at part asked
IsUnallowed tables other asked = ⊤

-- what is wrong with a history: the entry at this place is the first that isn't legal. There the manager goes on with
-- another entry of the same seat and call, in which closures answered what the wrong one tells of them, where they may;
-- `drained` and the slot of a new packet are told by the wrong one, too. The two differ in the part that is named. Where
-- that is an answer, the tables don't allow it. Where the manager refuses the call, the cause is what its state has there
pub record IsWrong (fixed : Fixed) (history : List Entry) (wrong : Wrong) : Type 0 where
  pub first : IsFirstIllegal fixed history wrong.at
  pub entry : Entry
  pub there : slice_get history wrong.at ≡ Some entry
  pub seat : wrong.made.seat ≡ entry.seat
  pub call : wrong.made.call ≡ entry.call
  pub goes_on : IsLegal fixed (take wrong.at history ++ wrong.made ∷ [])
  pub told : AreTold fixed.tables entry.asked wrong.made.asked
  pub drained : IsDrainedTold entry wrong.made
  pub slot :
      (state : StateValue)
      → LeadsTo fixed (take wrong.at history) state
      → IsSlotTold state entry wrong.made
  pub differs : Differs wrong.difference entry wrong.made
  pub unallowed : IsUnallowed fixed.tables wrong.difference entry.asked
  pub cause :
      (state : StateValue)
      → LeadsTo fixed (take wrong.at history) state
      → wrong.cause ≡ cause_in state wrong.made.call wrong.made.reply

-- what is wrong with a history, and none exactly where it is legal
abbrev pub IsFirstWrong : Fixed → List Entry → Option Wrong → Type 0
IsFirstWrong fixed history None = IsLegal fixed history
IsFirstWrong fixed history (Some wrong) = IsWrong fixed history wrong

-- the same of a history with what its header fixes; without a header there are no entries, and nothing is wrong
abbrev pub IsFirstWrongWith : Option Header → List Entry → Option Wrong → Type 0
IsFirstWrongWith None history wrong = wrong ≡ None
IsFirstWrongWith (Some header) history wrong = IsFirstWrong (fixed_of header) history wrong

-- what is wrong with a transcript
abbrev pub IsExplained : TranscriptValue → Option Wrong → Type 0
IsExplained transcript wrong = IsFirstWrongWith transcript.header transcript.entries wrong

-- the verdict on so many entries where this is wrong with them
abbrev pub verdict_of : ℕ → Option Wrong → Verdict
verdict_of entries None = Legal entries
verdict_of entries (Some wrong) = Illegal wrong.at
