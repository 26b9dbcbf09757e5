-- The part of an entry that differs, and what stands there, in the words of a line of a transcript.
use Rattle.std.specs.Prelude.{ℕ, ◌+◌, List, ◌++◌, codes, slice_get, Bool, true, false, Option, Some, None}
use Rattle.std.specs.Fmt.{decimal}
use Rattle.std.specs.Option.{option_map_or}
use Rattle.irp_types.specs.Calls.{Call}
use Rattle.irp_types.specs.declared.asked.Asked.{Asked}
use Rattle.irp_types.specs.declared.entry.Entry.{Entry}
use Rattle.irp_types.specs.declared.names.LockNo.{LockNo}
use Rattle.irp_types.specs.declared.refusal.Refusal.{Refusal}
use Rattle.irp_types.specs.declared.reply.Reply.{Reply}
use Rattle.irp_types.specs.declared.reply.Reply.TheVariants.{Refused}
use Rattle.irp_names.specs.Replies.{reply_text}
use Rattle.irp_judge.specs.Differences.{place_of, refusal_in}
use Rattle.irp_judge.specs.declared.difference.ShownField.{ShownField}
use Rattle.irp_judge.specs.declared.difference.ShownField.TheVariants as field
use Rattle.irp_judge.specs.declared.difference.QuestionPart.{QuestionPart}
use Rattle.irp_judge.specs.declared.difference.QuestionPart.TheVariants as part
use Rattle.irp_judge.specs.declared.difference.Difference.{Difference}
use Rattle.irp_judge.specs.declared.difference.Difference.TheVariants as kind
use Rattle.irp_view.specs.Questions.{bool_text, question_value, who_text}

-- the name of a field of what is shown
abbrev pub field_name : ShownField → List ℕ
field_name field.Device = codes "device"
field_name field.Slot = codes "slot"
field_name field.Use = codes "use number"
field_name field.Major = codes "major"
field_name field.Location = codes "location"
field_name field.Word = codes "word"
field_name field.Status = codes "status"
field_name field.Information = codes "information"
field_name field.PendingReturned = codes "PendingReturned"
field_name field.Cancel = codes "cancel flag"
field_name field.Context = codes "context"
field_name field.HasLower = codes "has_lower"

-- a field of what is shown with the question at this place, from 0; the field's own place is told from 1
abbrev pub shown_text : ℕ → ShownField → List ℕ
shown_text at field =
    codes "asked " ++ (decimal at ++ (codes ", shown: " ++ (field_name field
    ++ (codes " (place " ++ (decimal (place_of field + 1) ++ codes ")")))))

-- the answer of the question at this place, if there is one
abbrev pub answer_part : ℕ → Option Asked → List ℕ
answer_part at None = codes "asked " ++ (decimal at ++ codes ", answer")
answer_part at (Some question) = codes "asked " ++ (decimal at ++ (codes ", answer of " ++ who_text question))

-- the part of a question, and the part of an entry
abbrev pub question_text : ℕ → QuestionPart → Option Asked → List ℕ
question_text at part.TooMany question = codes "asked " ++ decimal at
question_text at part.TooFew question = codes "asked " ++ decimal at
question_text at part.Closure question = codes "asked " ++ decimal at
question_text at (part.Shown field) question = shown_text at field
question_text at part.Answer question = answer_part at question

abbrev pub part_text : Difference → Entry → List ℕ
part_text kind.Number entry = codes "n"
part_text kind.Lock entry = codes "lock"
part_text kind.Drained entry = codes "drained"
part_text kind.Refusal entry = codes "reply"
part_text (kind.Question at part) entry = question_text at part (slice_get entry.asked at)
part_text kind.Reply entry = codes "reply"

-- a remove lock or none
abbrev pub lock_text : Option LockNo → List ℕ
lock_text None = codes "none"
lock_text (Some lock) = codes "remove lock " ++ decimal lock.0

-- whether a call is refused, and how: of one that the manager doesn't refuse no more is told
abbrev pub refusal_told : Bool → Call → Reply → List ℕ
refusal_told false call reply = reply_text call reply
refusal_told true call reply =
    option_map_or (λ (refusal : Refusal). reply_text call (Refused refusal)) (refusal_in reply)
    (codes "doesn't refuse it")

-- what stands in the part that differs, of the manager's own entry or of the recorded one
abbrev pub value_text : Difference → Bool → Entry → List ℕ
value_text kind.Number is_made entry = decimal entry.number
value_text kind.Lock is_made entry = lock_text entry.lock
value_text kind.Drained is_made entry = bool_text entry.drained
value_text kind.Refusal is_made entry = refusal_told is_made entry.call entry.reply
value_text (kind.Question at part) is_made entry = question_value at part is_made (slice_get entry.asked at)
value_text kind.Reply is_made entry = reply_text entry.call entry.reply
