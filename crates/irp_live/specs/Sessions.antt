-- A session: what it was told, and what each line makes of it and is answered with.
use Rattle.std.specs.Prelude.{ℕ, ◌≡◌, List, Bool, true, false, Option, Some, None, Result, Ok, Err}
use Rattle.std.specs.Option.{option_map}
use Rattle.serde_json.specs.Data.{Data}
use Rattle.irp_types.specs.Refusals.{first_refusal}
use Rattle.irp_transcript.specs.Headers.{fixed_of}
use Rattle.irp_transcript.specs.Transcripts.{TranscriptValue}
use Rattle.irp_transcript_reader.specs.Reading.{IsNext, so_far}
use Rattle.irp_transcript_writer.specs.Json.{line_text, or_null}
use Rattle.irp_judge.specs.Judges.{seen}
use Rattle.irp_judge.specs.Judging.{HasJudged, JudgeValue}
use Rattle.irp_judge.specs.Looks.{looked}
use Rattle.irp_judge.specs.declared.verdict.Wrong.{Wrong}
use Rattle.irp_live.specs.Asking.{IsHeard, question_at}
use Rattle.irp_live.specs.Told.{fault_json, looked_json, next_json, refusal_json}
use Rattle.irp_live.specs.declared.asking.LineFault.{LineFault}
use Rattle.irp_live.specs.declared.asking.LineFault.TheVariants.{NoForm}
use Rattle.irp_live.specs.declared.asking.Question.{Question}
use Rattle.irp_live.specs.declared.asking.Question.TheVariants.{Would, Look, End}
use Rattle.irp_live.specs.declared.session.Session.{Session}

-- the transcript of the lines that were taken, and what the judge of its entries keeps
pub record SessionValue : Type 0 where
  pub told : TranscriptValue
  pub judge : JudgeValue

abbrev pub session_of : Session → SessionValue
session_of session = record { told = so_far session.reading; judge = seen session.judge }

-- the judge was fed the entries of the transcript, by its header
pub record Stands (session : SessionValue) : Type 0 where
  pub header : session.told.header ≡ Some session.judge.header
  pub judged : HasJudged session.judge session.told.entries

-- the number of the entry that isn't legal, if there is one
abbrev pub wrong_at : SessionValue → Option ℕ
wrong_at session = option_map (λ (wrong : Wrong). wrong.at) session.judge.wrong

-- the value is the next line of the transcript: it is taken, and the answer says what is wrong with it; or it isn't the
-- next line, and nothing changes
abbrev pub IsNextAnswer : Bool → ℕ → SessionValue → Data → Data → SessionValue → Type 0
IsNextAnswer true number before form answer after =
    IsNext before.told form after.told × Stands after
    × (answer ≡ next_json (wrong_at before) after.judge.wrong)
IsNextAnswer false number before form answer after =
    ((other : TranscriptValue) → IsNext before.told form other → ⊥)
    × (answer ≡ fault_json NoForm number) × (after ≡ before)

-- a value that isn't the question for the verdict is answered so, as the line of this number: by what a call would be
-- refused with, by what a Look would be replied with, or as the next line of the transcript
abbrev pub IsAnswer : Option Question → ℕ → SessionValue → Data → Data → SessionValue → Type 0
IsAnswer (Some (Would called)) number before form answer after =
    (answer ≡ or_null refusal_json
    (first_refusal (fixed_of before.judge.header) before.judge.state called.drained called.call)) × (after ≡ before)
IsAnswer (Some (Look irp)) number before form answer after =
    (answer ≡ looked_json (looked before.judge.state irp)) × (after ≡ before)
IsAnswer (Some End) number before form answer after = ⊥
IsAnswer None number before form answer after =
    (taken : Bool) × IsNextAnswer taken number before form answer after

-- the session goes on, and the line that answers a value as the line of this number is this one; none where the value
-- asks for the verdict, and then nothing changes
abbrev pub IsAnswerLine : Option Question → ℕ → SessionValue → Data → Option (List ℕ) → SessionValue → Type 0
IsAnswerLine question number before form None after = (question ≡ Some End) × (after ≡ before)
IsAnswerLine question number before form (Some line) after =
    (answer : Data) × (line ≡ line_text answer) × Stands after × IsAnswer question number before form answer after

-- the same of a line that was read as a value or has a fault
abbrev pub IsReply : ℕ → SessionValue → Result Data LineFault → Data → SessionValue → Type 0
IsReply number before (Ok form) answer after = IsAnswer (question_at form) number before form answer after
IsReply number before (Err fault) answer after = (answer ≡ fault_json fault number) × (after ≡ before)

-- the line of this number is answered so
abbrev pub IsAnswered : ℕ → SessionValue → List ℕ → Data → SessionValue → Type 0
IsAnswered number before line answer after =
    (heard : Result Data LineFault) × IsHeard line heard × IsReply number before heard answer after

-- a line asks for the verdict
abbrev pub IsEnd : List ℕ → Type 0
IsEnd line = (form : Data) × IsHeard line (Ok form) × (question_at form ≡ Some End)

-- the session goes on, and this line answers the line of this number; none where that asks for the verdict, and then
-- nothing changes
abbrev pub IsReplyLine : ℕ → SessionValue → List ℕ → Option (List ℕ) → SessionValue → Type 0
IsReplyLine number before line None after = IsEnd line × (after ≡ before)
IsReplyLine number before line (Some said) after =
    (answer : Data) × (said ≡ line_text answer) × Stands after × IsAnswered number before line answer after
