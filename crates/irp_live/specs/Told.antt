-- What goes out: the answers.
use Rattle.std.specs.Prelude.{ℕ, List, [], ◌∷◌, codes, Option, Some, None}
use Rattle.serde_json.specs.Data.{Data, null, string}
use Rattle.irp_forms.specs.Names.{refusal_name}
use Rattle.irp_types.specs.declared.refusal.Refusal.{Refusal}
use Rattle.irp_types.specs.declared.reply.Reply.{Reply}
use Rattle.irp_types.specs.declared.reply.Reply.TheVariants.{Refused}
use Rattle.irp_judge.specs.declared.difference.Difference.{Difference}
use Rattle.irp_judge.specs.declared.difference.Difference.TheVariants as kind
use Rattle.irp_judge.specs.declared.difference.QuestionPart.TheVariants as part
use Rattle.irp_judge.specs.declared.difference.ShownField.{ShownField}
use Rattle.irp_judge.specs.declared.difference.ShownField.TheVariants as field
use Rattle.irp_judge.specs.declared.verdict.Wrong.{Wrong}
use Rattle.irp_transcript_writer.specs.Json.{fields, natural, or_null}
use Rattle.irp_transcript_writer.specs.Lines.{entry_json, reply_json}
use Rattle.irp_live.specs.declared.asking.LineFault.{LineFault}
use Rattle.irp_live.specs.declared.asking.LineFault.TheVariants.{TooLong, NotJson, NoForm}

-- a refusal by its name
abbrev pub refusal_json : Refusal → Data
refusal_json refusal = string (refusal_name refusal)

-- what a Look would be replied with: the reply, or the refusal's name
abbrev pub looked_json : Reply → Data
looked_json (Refused refusal) = refusal_json refusal
looked_json reply = reply_json reply

-- a line that isn't taken, by its number from 1
abbrev pub fault_name : LineFault → List ℕ
fault_name TooLong = codes "too_long"
fault_name NotJson = codes "not_json"
fault_name NoForm = codes "no_form"

abbrev pub fault_json : LineFault → ℕ → Data
fault_json fault line =
    fields ((codes "fault", string (fault_name fault)) ∷ (codes "line", natural line) ∷ [])

-- what differs
abbrev pub difference_json : Difference → Data
difference_json kind.Number = string (codes "number")
difference_json kind.Lock = string (codes "lock")
difference_json kind.Drained = string (codes "drained")
difference_json kind.Refusal = string (codes "refusal")
difference_json (kind.Question at part) = string (codes "question")
difference_json kind.Reply = string (codes "reply")

-- which part of a question differs
abbrev pub part_json : Difference → Data
part_json (kind.Question at part.TooMany) = string (codes "too_many")
part_json (kind.Question at part.TooFew) = string (codes "too_few")
part_json (kind.Question at part.Closure) = string (codes "closure")
part_json (kind.Question at (part.Shown field)) = string (codes "shown")
part_json (kind.Question at part.Answer) = string (codes "answer")
part_json other = null

-- which place of what is shown differs
abbrev pub field_name : ShownField → List ℕ
field_name field.Device = codes "device"
field_name field.Slot = codes "slot"
field_name field.Use = codes "use"
field_name field.Major = codes "major"
field_name field.Location = codes "location"
field_name field.Word = codes "word"
field_name field.Status = codes "status"
field_name field.Information = codes "information"
field_name field.PendingReturned = codes "pending_returned"
field_name field.Cancel = codes "cancel"
field_name field.Context = codes "context"
field_name field.HasLower = codes "has_lower"

abbrev pub shown_json : Difference → Data
shown_json (kind.Question at (part.Shown field)) = string (field_name field)
shown_json other = null

-- the place of the question that differs, from 0
abbrev pub question_of : Difference → Option ℕ
question_of (kind.Question at part) = Some at
question_of other = None

-- the refusal that a reply is
abbrev pub refusal_in : Reply → Option Refusal
refusal_in (Refused refusal) = Some refusal
refusal_in other = None

-- what is wrong: what differs, the entry that the manager makes, and the number of the entry that isn't legal
abbrev pub wrong_json : Wrong → Data
wrong_json wrong =
    fields ((codes "differs", difference_json wrong.difference)
    ∷ (codes "made", entry_json wrong.made)
    ∷ (codes "part", part_json wrong.difference)
    ∷ (codes "question", or_null natural (question_of wrong.difference))
    ∷ (codes "refused", or_null refusal_json (refusal_in wrong.made.reply))
    ∷ (codes "shown", shown_json wrong.difference)
    ∷ (codes "wrong_at", natural wrong.at)
    ∷ [])

-- the same behind it: the number alone
abbrev pub since_json : ℕ → Data
since_json at = fields ((codes "wrong_at", natural at) ∷ [])

-- what the next line of a transcript is answered with: the number of an entry before it that isn't legal; or what is
-- wrong with it; or null
abbrev pub next_json : Option ℕ → Option Wrong → Data
next_json (Some at) wrong = since_json at
next_json None (Some wrong) = wrong_json wrong
next_json None None = null
