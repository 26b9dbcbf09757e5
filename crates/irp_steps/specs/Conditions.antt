-- When the condition of a step holds, by what the steps of its seat were answered.
use Rattle.std.specs.Prelude.{
  ℕ,
  ◌==◌,
  ◌≡◌,
  Bool,
  true,
  false,
  not,
  if◌then◌else◌,
  is_some,
  Option,
  Some,
  None,
  List,
  [],
  length,
  replicate,
  slice_get,
  slice_set,
}
use Rattle.std.specs.List.{list_any}
use Rattle.std.specs.Option.{option_flatten, option_map_or}
use Rattle.irp_types.specs.Refusal.{refusal_number}
use Rattle.irp_types.specs.Status.{is_success, success}
use Rattle.irp_types.specs.declared.names.CancelId.{CancelId}
use Rattle.irp_types.specs.declared.refusal.Refusal.{Refusal}
use Rattle.irp_types.specs.declared.reply.Reply.{Reply}
use Rattle.irp_types.specs.declared.reply.Reply.TheVariants as replied
use Rattle.irp_types.specs.declared.status.Status.{Status}
use Rattle.irp_transcript.specs.declared.word_line.WordReply.{WordReply}
use Rattle.irp_transcript.specs.declared.word_line.WordReply.TheVariants as answered
use Rattle.irp_script_reader.specs.declared.condition.{
  AnswerWord.AnswerWord,
  Condition.Condition,
  ExpectedAnswer.ExpectedAnswer,
}
use Rattle.irp_script_reader.specs.declared.condition.AnswerWord.TheVariants as word
use Rattle.irp_script_reader.specs.declared.condition.ExpectedAnswer.TheVariants as expected
use Rattle.irp_script_reader.specs.declared.act.Step.{Step}
use Rattle.irp_steps.specs.declared.answered.Answered.{Answered}
use Rattle.irp_steps.specs.declared.answered.Answered.TheVariants as answer

-- ---- the manager's replies

-- the one refusal is the other
abbrev pub is_refusal : Refusal → Refusal → Bool
is_refusal given wanted = refusal_number given == refusal_number wanted

abbrev pub is_status : Status → Status → Bool
is_status given wanted = given.0 == wanted.0

-- the one cancel routine is the other, or there is none of both
abbrev pub is_routine : Option CancelId → Option CancelId → Bool
is_routine None None = true
is_routine (Some given) (Some wanted) = given.0 == wanted.0
is_routine given wanted = false

abbrev pub is_flag : Bool → Bool → Bool
is_flag given true = given
is_flag given false = not given

-- what the manager replied is the answer that is expected
abbrev pub expects_reply : ExpectedAnswer → Reply → Bool
expects_reply expected.AnyRefusal (replied.Refused given) = true
expects_reply (expected.Refusal wanted) (replied.Refused given) = is_refusal given wanted
expects_reply expected.Success (replied.Status given) = is_success given
expects_reply (expected.Status wanted) (replied.Status given) = is_status given wanted
expects_reply expected.AnyRoutine (replied.Previous given) = is_some given
expects_reply (expected.Previous wanted) (replied.Previous given) = is_routine given wanted
expects_reply (expected.Cancelled wanted) (replied.Cancelled given) = is_flag given wanted
expects_reply expected.Done replied.Done = true
expects_reply other given = false

-- ---- the answers of remove locks and of cancel slots

-- an answer that refuses. That removal has begun, that a lock is busy, that a use is lost, and that a slot is empty are
-- answers as others
abbrev pub is_refused_word : WordReply → Bool
is_refused_word answered.SeatFull = true
is_refused_word answered.NotHeld = true
is_refused_word answered.AlreadyRemoving = true
is_refused_word answered.NoLock = true
is_refused_word answered.Used = true
is_refused_word answered.NotStanding = true
is_refused_word answered.NoSlot = true
is_refused_word answered.NoToken = true
is_refused_word other = false

-- STATUS_DELETE_PENDING: removal has begun
abbrev pub delete_pending : Status
delete_pending = record { 0 = 0xC0000056 }

-- the status that an acquire is answered by
abbrev pub status_of : WordReply → Option Status
status_of answered.Acquired = Some success
status_of answered.DeletePending = Some delete_pending
status_of other = None

-- the answer is the word
abbrev pub is_word : AnswerWord → WordReply → Bool
is_word word.Yes answered.Yes = true
is_word word.Busy (answered.Busy found) = true
is_word word.SeatFull answered.SeatFull = true
is_word word.NotHeld answered.NotHeld = true
is_word word.AlreadyRemoving answered.AlreadyRemoving = true
is_word word.NoLock answered.NoLock = true
is_word word.Standing answered.Standing = true
is_word word.Taken (answered.Taken use_no) = true
is_word word.Lost answered.Lost = true
is_word word.Nothing answered.Nothing = true
is_word word.Used answered.Used = true
is_word word.NotStanding answered.NotStanding = true
is_word word.NoSlot answered.NoSlot = true
is_word word.NoToken answered.NoToken = true
is_word wanted other = false

abbrev pub is_done : WordReply → Bool
is_done answered.Done = true
is_done other = false

-- what a remove lock or a cancel slot answered is the answer that is expected
abbrev pub expects_word : ExpectedAnswer → WordReply → Bool
expects_word expected.AnyRefusal given = is_refused_word given
expects_word expected.Success given = option_map_or is_success (status_of given) false
expects_word (expected.Status wanted) given = option_map_or (λ status. is_status status wanted) (status_of given) false
expects_word expected.Done given = is_done given
expects_word (expected.Word wanted) given = is_word wanted given
expects_word other given = false

-- ---- conditions

-- what was answered is the answer that is expected
abbrev pub expects : ExpectedAnswer → Answered → Bool
expects wanted (answer.Reply given) = expects_reply wanted given
expects wanted (answer.Word given) = expects_word wanted given

-- the step that the condition names was made, and its answer is the one that is expected, or isn't, as is wanted
abbrev pub allows : Condition → Option Answered → Bool
allows condition None = false
allows condition (Some given) = is_flag (expects condition.answer given) condition.wanted

-- what steps were answered, by their places: none where a step wasn't made
abbrev pub Heard : Type 0
Heard = List (Option Answered)

abbrev pub heard_at : Heard → ℕ → Option Answered
heard_at heard step = option_flatten (slice_get heard step)

-- the same once the step of this place was answered so, where answers are kept
abbrev pub with_answer : Heard → ℕ → Answered → Heard
with_answer heard step given = slice_set heard step (Some given)

-- what the step that a condition names was answered. Those of a `Script` name steps of their own seat. None where
-- nothing is named
abbrev pub named_answer : Heard → Option Condition → Option Answered
named_answer heard None = None
named_answer heard (Some condition) = heard_at heard condition.step

-- what hangs on this is due, where the step that is named was answered so: what hangs on nothing is, in any case
abbrev pub is_due : Option Condition → Option Answered → Bool
is_due None answer = true
is_due (Some condition) answer = allows condition answer

abbrev pub IsDue : Option Condition → Option Answered → Type 0
IsDue condition answer = is_due condition answer ≡ true

-- what hangs on this is made, by what steps were answered
abbrev pub holds : Heard → Option Condition → Bool
holds heard condition = is_due condition (named_answer heard condition)

-- nothing was heard yet of these steps. Where none has a condition, no answers are kept
abbrev pub none_heard : List Step → Heard
none_heard steps =
    if list_any (λ (step : Step). is_some step.condition) steps then replicate (length steps) None else []
