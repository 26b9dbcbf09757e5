-- What is wrong with an entry, as JSON.
use Rattle.std.specs.Prelude.{[], ◌∷◌, codes, Option, Some, None}
use Rattle.serde_json.specs.Data.{Data, null, string}
use Rattle.irp_forms.specs.Names.{refusal_name}
use Rattle.irp_types.specs.declared.reply.Reply.{Reply}
use Rattle.irp_types.specs.declared.reply.Reply.TheVariants.{Refused}
use Rattle.irp_judge.specs.declared.cause.Cause.{Cause}
use Rattle.irp_judge.specs.declared.cause.Cause.TheVariants as cause
use Rattle.irp_judge.specs.declared.difference.Difference.{Difference}
use Rattle.irp_judge.specs.declared.difference.Difference.TheVariants as kind
use Rattle.irp_judge.specs.declared.difference.QuestionPart.TheVariants as part
use Rattle.irp_judge.specs.declared.difference.ShownField.{ShownField}
use Rattle.irp_judge.specs.declared.difference.ShownField.TheVariants as field
use Rattle.irp_judge.specs.declared.verdict.Wrong.{Wrong}
use Rattle.irp_transcript_writer.specs.Json.{fields, list, natural, or_null}
use Rattle.irp_transcript_writer.specs.Lines.{cancel_json, device_json, entry_json, lock_json, owner_json}

-- what differs first
abbrev pub difference_json : Difference → Data
difference_json kind.Number = string (codes "number")
difference_json kind.Lock = string (codes "lock")
difference_json kind.Drained = string (codes "drained")
difference_json kind.Refusal = string (codes "refusal")
difference_json (kind.Question at part) = string (codes "question")
difference_json kind.Reply = string (codes "reply")

-- which part of a question
abbrev pub part_json : Difference → Data
part_json (kind.Question at part.TooMany) = string (codes "too_many")
part_json (kind.Question at part.TooFew) = string (codes "too_few")
part_json (kind.Question at part.Closure) = string (codes "closure")
part_json (kind.Question at (part.Shown field)) = string (codes "shown")
part_json (kind.Question at part.Answer) = string (codes "answer")
part_json other = null

-- which place of what is shown
abbrev pub field_json : ShownField → Data
field_json field.Device = string (codes "device")
field_json field.Slot = string (codes "slot")
field_json field.Use = string (codes "use")
field_json field.Major = string (codes "major")
field_json field.Location = string (codes "location")
field_json field.Word = string (codes "word")
field_json field.Status = string (codes "status")
field_json field.Information = string (codes "information")
field_json field.PendingReturned = string (codes "pending_returned")
field_json field.Cancel = string (codes "cancel")
field_json field.Context = string (codes "context")
field_json field.HasLower = string (codes "has_lower")

abbrev pub shown_json : Difference → Data
shown_json (kind.Question at (part.Shown field)) = field_json field
shown_json other = null

-- the place of the question, from 0
abbrev pub question_json : Difference → Data
question_json (kind.Question at part) = natural at
question_json other = null

-- what of the manager's state its refusal comes from: the numbers of the state
abbrev pub cause_json : Cause → Data
cause_json cause.Nothing = list (string (codes "nothing") ∷ [])
cause_json (cause.Use number) = list (string (codes "use") ∷ natural number ∷ [])
cause_json (cause.Owner owner) = list (string (codes "owner") ∷ owner_json owner ∷ [])
cause_json (cause.Location current size) = list (string (codes "location") ∷ natural current ∷ natural size ∷ [])
cause_json (cause.Room current size needed) =
    list (string (codes "room") ∷ natural current ∷ natural size ∷ natural needed ∷ [])
cause_json (cause.Lower device) = list (string (codes "lower") ∷ or_null device_json device ∷ [])
cause_json (cause.CancelRoutine cancel) = list (string (codes "cancel_routine") ∷ or_null cancel_json cancel ∷ [])
cause_json (cause.Devices count) = list (string (codes "devices") ∷ natural count ∷ [])
cause_json (cause.Neighbours lower upper) =
    list (string (codes "neighbours") ∷ or_null device_json lower ∷ or_null device_json upper ∷ [])
cause_json (cause.Stack count) = list (string (codes "stack") ∷ natural count ∷ [])
cause_json (cause.Lock lock) = list (string (codes "lock") ∷ lock_json lock ∷ [])
cause_json (cause.Packets live next_use) = list (string (codes "packets") ∷ natural live ∷ natural next_use ∷ [])

abbrev pub source_json : Option Cause → Data
source_json None = null
source_json (Some cause) = cause_json cause

-- the refusal that a reply is, by its name
abbrev pub refused_json : Reply → Data
refused_json (Refused refusal) = string (refusal_name refusal)
refused_json other = null

-- what is wrong with an entry: what it differs in from the manager's own, the refusal that the manager gives and what
-- that comes from, where it refuses the call, and the manager's own entry
abbrev pub wrong_json : Wrong → Data
wrong_json wrong =
    fields ((codes "cause", source_json wrong.cause)
    ∷ (codes "differs", difference_json wrong.difference)
    ∷ (codes "made", entry_json wrong.made)
    ∷ (codes "part", part_json wrong.difference)
    ∷ (codes "question", question_json wrong.difference)
    ∷ (codes "refused", refused_json wrong.made.reply)
    ∷ (codes "shown", shown_json wrong.difference)
    ∷ [])
