-- What a line is answered with, by what its value is.
use Rattle.std.proofs.Common.{◌≡◌, ℕ, List, Option, Some, None, option_map, Result, Ok, Err, IfOk, true, false, refl, sym, subst, ap, ◌∙◌}
use Rattle.serde_json.specs.Data.{Data}
use Rattle.irp_transcript.specs.Transcripts.{TranscriptValue}
use Rattle.irp_transcript_reader.specs.Reading.{IsLine, IsNext}
use Rattle.irp_transcript_writer.specs.Json.{line_text}
use Rattle.irp_live.specs.Asking.{IsHeard, question_at}
use Rattle.irp_judge.specs.declared.verdict.Wrong.{Wrong}
use Rattle.irp_live.specs.Sessions.{IsAnswerLine, IsReplyLine, SessionValue, Stands, wrong_at}
use Rattle.irp_live.specs.Told.{fault_json, next_json}
use Rattle.irp_live.specs.declared.asking.LineFault.{LineFault}
use Rattle.irp_live.specs.declared.asking.LineFault.TheVariants.{NoForm}

pub replies : (number : ℕ) (before after : SessionValue) (line : List ℕ) (form : Data) (said : Option (List ℕ)) → IsLine line form
    → IsAnswerLine (question_at form) number before form said after → IsReplyLine number before line said after
replies number before after line form None heard answer = ((form, heard, answer.0), answer.1)
replies number before after line form (Some said) heard answer = (answer.0, answer.1, answer.2, (Ok form, heard, answer.3))

-- the same of what comes of making the answer
pub reply_gives : {V E : Type 0} (items : V → List ℕ) (number : ℕ) (before after : SessionValue) (line : List ℕ) (form : Data)
    (result : Result (Option V) E) → IsLine line form
    → IfOk result (λ said. IsAnswerLine (question_at form) number before form (option_map items said) after)
    → IfOk result (λ said. IsReplyLine number before line (option_map items said) after)
reply_gives items number before after line form (Ok said) heard answer = replies number before after line form (option_map items said) heard answer
reply_gives items number before after line form (Err error) heard answer = tt

-- a line with a fault
pub fault_gives : (number : ℕ) (before : SessionValue) (line said : List ℕ) (fault : LineFault) → IsHeard line (Err fault)
    → said ≡ line_text (fault_json fault number) → Stands before → IsReplyLine number before line (Some said) before
fault_gives number before line said fault heard is stands = (fault_json fault number, is, stands, (Err fault, heard, (refl, refl)))

-- the next line of the transcript
pub next_gives : {V E : Type 0} (items : V → List ℕ) (number : ℕ) (before after : SessionValue) (form : Data) (at : Option ℕ)
    (wrong : Option Wrong) (result : Result V E) → at ≡ wrong_at before → wrong ≡ after.judge.wrong → IsNext before.told form after.told
    → Stands after → IfOk result (λ line. items line ≡ line_text (next_json at wrong))
    → IfOk result (λ line. IsAnswerLine None number before form (Some (items line)) after)
next_gives items number before after form at wrong (Ok line) first then next stands is =
    let same : next_json at wrong ≡ next_json (wrong_at before) after.judge.wrong =
    ap (λ (at : Option ℕ). next_json at wrong) first ∙ ap (next_json (wrong_at before)) then in
    (next_json (wrong_at before) after.judge.wrong, is ∙ ap line_text same, stands, (true, (next, stands, refl)))
next_gives items number before after form at wrong (Err error) first then next stands is = tt

-- what isn't the next line
pub no_form_gives : {V E : Type 0} (items : V → List ℕ) (number : ℕ) (before after : SessionValue) (form : Data) (result : Result V E)
    → ((other : TranscriptValue) → IsNext before.told form other → ⊥) → Stands before → after ≡ before
    → IfOk result (λ line. items line ≡ line_text (fault_json NoForm number))
    → IfOk result (λ line. IsAnswerLine None number before form (Some (items line)) after)
no_form_gives items number before after form (Ok line) none stands same is =
    (fault_json NoForm number, is, subst Stands (sym same) stands, (false, (none, refl, same)))
no_form_gives items number before after form (Err error) none stands same is = tt
