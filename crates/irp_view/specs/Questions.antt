-- Questions in words: the closure that is asked, what it is shown and what it answers.
use Rattle.std.specs.Prelude.{ℕ, ◌==◌, List, [], ◌++◌, codes, Bool, true, false, Option, Some, None, if◌then◌else◌}
use Rattle.std.specs.Fmt.{decimal}
use Rattle.irp_types.specs.declared.asked.Asked.{Asked}
use Rattle.irp_types.specs.declared.asked.Asked.TheVariants as asked
use Rattle.irp_types.specs.declared.names.DeviceId.{DeviceId}
use Rattle.irp_types.specs.declared.answer.Answer.{Answer}
use Rattle.irp_types.specs.declared.answer.Replacement.{Replacement}
use Rattle.irp_types.specs.declared.answer.CancelAnswer.{CancelAnswer}
use Rattle.irp_types.specs.declared.answer.CancelAnswer.TheVariants.{Finish, Leave}
use Rattle.irp_types.specs.declared.shown.Shown.{Shown}
use Rattle.irp_names.specs.Closures.{plan_text}
use Rattle.irp_names.specs.Majors.{major_text}
use Rattle.irp_names.specs.Small.{device_text, hex_text, routine_text}
use Rattle.irp_names.specs.Statuses.{result_text, status_text}
use Rattle.irp_types.specs.Questions.{shown_of}
use Rattle.irp_judge.specs.declared.difference.ShownField.{ShownField}
use Rattle.irp_judge.specs.declared.difference.ShownField.TheVariants as field
use Rattle.irp_judge.specs.declared.difference.QuestionPart.{QuestionPart}
use Rattle.irp_judge.specs.declared.difference.QuestionPart.TheVariants as part

-- a closure, and the device that it is asked for
abbrev pub who_text : Asked → List ℕ
who_text (asked.Dispatch id shown plan) =
    codes "dispatch " ++ (decimal id.0 ++ (codes " for " ++ device_text shown.device))
who_text (asked.Completion id shown answer) = routine_text id ++ (codes " for " ++ device_text shown.device)
who_text (asked.Cancel id shown answer) =
    codes "cancel routine " ++ (decimal id.0 ++ (codes " for " ++ device_text shown.device))

-- ---- what is shown

-- a truth value, and a device or none
abbrev pub bool_text : Bool → List ℕ
bool_text true = codes "true"
bool_text false = codes "false"

abbrev pub device_shown : Option DeviceId → List ℕ
device_shown None = codes "none"
device_shown (Some device) = codes "D" ++ decimal device.0

-- what is shown in a field
abbrev pub field_text : ShownField → Shown → List ℕ
field_text field.Device shown = device_shown shown.device
field_text field.Slot shown = decimal shown.irp.slot
field_text field.Use shown = decimal shown.irp.use_no
field_text field.Major shown = major_text shown.major
field_text field.Location shown = decimal shown.location
field_text field.Word shown = hex_text shown.word
field_text field.Status shown = status_text shown.status
field_text field.Information shown = hex_text shown.information
field_text field.PendingReturned shown = bool_text shown.pending_returned
field_text field.Cancel shown = bool_text shown.cancel
field_text field.Context shown = hex_text shown.context
field_text field.HasLower shown = bool_text shown.has_lower

-- ---- what is answered

-- whether a completion routine keeps the packet, and whether it marks it pending
abbrev pub keep_text : Bool → List ℕ
keep_text true = codes "keep"
keep_text false = codes "continue"

abbrev pub mark_text : Bool → List ℕ
mark_text true = codes ", mark"
mark_text false = codes ", no mark"

-- what it sets
abbrev pub sets_text : Option Replacement → List ℕ
sets_text None = []
sets_text (Some put) = codes ", sets " ++ result_text put.status put.information

abbrev pub completion_text : Answer → List ℕ
completion_text answer = keep_text answer.keep ++ (mark_text answer.mark ++ sets_text answer.replacement)

abbrev pub cancel_answer_text : CancelAnswer → List ℕ
cancel_answer_text (Finish information) = codes "finish, information " ++ hex_text information
cancel_answer_text Leave = codes "leave"

-- an answer
abbrev pub answer_text : Asked → List ℕ
answer_text (asked.Dispatch id shown plan) = plan_text plan
answer_text (asked.Completion id shown answer) = completion_text answer
answer_text (asked.Cancel id shown answer) = cancel_answer_text answer

-- of the manager's own entry it is told that others may be allowed too
abbrev pub answer_lead : Bool → List ℕ
answer_lead false = []
answer_lead true = codes "an answer that is allowed, such as: "

abbrev pub answer_told : Bool → Asked → List ℕ
answer_told is_made question = answer_lead is_made ++ answer_text question

-- ---- what differs

-- that nobody is asked at this place, from 0
abbrev pub nobody_text : ℕ → List ℕ
nobody_text at = if at == 0 then codes "asks nobody" else codes "asks nobody any more"

-- what a question says in the part that differs, of the manager's own entry or of the recorded one
abbrev pub told_of : QuestionPart → Bool → Asked → List ℕ
told_of part.TooMany is_made question = codes "asks " ++ who_text question
told_of part.TooFew is_made question = codes "asks " ++ who_text question
told_of part.Closure is_made question = codes "asks " ++ who_text question
told_of (part.Shown field) is_made question = field_text field (shown_of question)
told_of part.Answer is_made question = answer_told is_made question

-- the same of the question at this place, if there is one
abbrev pub question_value : ℕ → QuestionPart → Bool → Option Asked → List ℕ
question_value at part is_made None = nobody_text at
question_value at part is_made (Some question) = told_of part is_made question
