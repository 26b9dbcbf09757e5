-- The forms that a transcript's lines are made of, and the lines.
use Rattle.std.specs.Prelude.{ℕ, List, [], ◌∷◌, ◌++◌, Bool, map, codes, Option, Some, None}
use Rattle.std.specs.List.{flat_map}
use Rattle.serde_json.specs.Data.{Data, boolean, string}
use Rattle.irp_forms.specs.Names.{answer_name, cancel_rule_name, flagged, flags_name, refusal_name, rule_name}
use Rattle.irp_transcript_writer.specs.Json.{natural, list, fields, or_null, line_text}
use Rattle.irp_types.specs.declared.{answer.Answer.Answer, answer.CancelAnswer.CancelAnswer, answer.Plan.Plan}
use Rattle.irp_types.specs.declared.{answer.Replacement.Replacement, asked.Asked.Asked, call.Party.Party}
use Rattle.irp_types.specs.declared.{entry.Entry.Entry, location.Owner.Owner, names.CancelId.CancelId}
use Rattle.irp_types.specs.declared.{names.DeviceId.DeviceId, names.DispatchId.DispatchId, names.IrpRef.IrpRef}
use Rattle.irp_types.specs.declared.{names.LockNo.LockNo, reply.Reply.Reply, reply.Seen.Seen}
use Rattle.irp_types.specs.declared.{routine.CancelRule.CancelRule, routine.Known.Known, routine.RoutineId.RoutineId}
use Rattle.irp_types.specs.declared.{routine.Setting.Setting, shown.Shown.Shown, status.Status.Status}
use Rattle.irp_types.specs.declared.answer.CancelAnswer.TheVariants as cancel_answer
use Rattle.irp_types.specs.declared.answer.Plan.TheVariants as plan
use Rattle.irp_types.specs.declared.asked.Asked.TheVariants as asked
use Rattle.irp_types.specs.Calls.{Call}
use Rattle.irp_types.specs.declared.call.Call.TheVariants as call
use Rattle.irp_types.specs.declared.call.Party.TheVariants as party
use Rattle.irp_types.specs.declared.location.Owner.TheVariants as owner
use Rattle.irp_types.specs.declared.reply.Reply.TheVariants as reply
use Rattle.irp_types.specs.declared.seat_act.LockAct.TheVariants as on_lock
use Rattle.irp_types.specs.declared.seat_act.SlotAct.TheVariants as on_slot
use Rattle.irp_transcript.specs.Transcripts.{TranscriptValue}
use Rattle.irp_transcript.specs.declared.{header.Header.Header, header.Form.Form, word_line.Act.Act}
use Rattle.irp_transcript.specs.declared.{word_line.WordLine.WordLine, word_line.WordReply.WordReply}
use Rattle.irp_transcript.specs.declared.header.Form.TheVariants as form
use Rattle.irp_transcript.specs.declared.word_line.Act.TheVariants as act
use Rattle.irp_transcript.specs.declared.word_line.WordReply.TheVariants as word_reply

-- a device by its number
abbrev pub device_json : DeviceId → Data
device_json device = natural device.0

-- a cancel routine by its number
abbrev pub cancel_json : CancelId → Data
cancel_json cancel = natural cancel.0

-- a remove lock by its number
abbrev pub lock_json : LockNo → Data
lock_json lock = natural lock.0

-- a status by its number
abbrev pub status_json : Status → Data
status_json status = natural status.0

-- a packet by its slot and its use
abbrev pub irp_json : IrpRef → Data
irp_json irp = list (natural irp.slot ∷ natural irp.use_no ∷ [])

-- a party: "o" for the originator, or the device's number
abbrev pub party_json : Party → Data
party_json party.Originator = string (codes "o")
party_json (party.Device device) = device_json device

-- an owner: as a party, or "ended"
abbrev pub owner_json : Owner → Data
owner_json owner.Originator = string (codes "o")
owner_json (owner.Device device) = device_json device
owner_json owner.Ended = string (codes "ended")

-- a cancel routine's rule by its name
abbrev pub cancel_rule_json : CancelRule → Data
cancel_rule_json rule = string (cancel_rule_name rule)

-- a completion routine by its rule and its number there
abbrev pub routine_json : RoutineId → Data
routine_json routine = list (string (rule_name routine.rule) ∷ natural routine.no ∷ [])

-- the letters of the flags that are set, in this order
abbrev pub flags_text : Setting → List ℕ
flags_text setting = flags_name (flagged setting.on_success setting.on_error setting.on_cancel)

-- a setting: rule, number, context and flags
abbrev pub setting_json : Setting → Data
setting_json setting =
    list (string (rule_name setting.routine.rule) ∷ natural setting.routine.no ∷ natural setting.context
    ∷ string (flags_text setting) ∷ [])

-- a plan: its name and what it names
abbrev pub plan_json : Plan → Data
plan_json (plan.Finish status information) =
    list (string (codes "finish") ∷ status_json status ∷ natural information ∷ [])
plan_json (plan.Hold cancel) = list (string (codes "hold") ∷ or_null cancel_json cancel ∷ [])
plan_json plan.HoldSlot = list (string (codes "hold_slot") ∷ [])
plan_json plan.Skip = list (string (codes "skip") ∷ [])
plan_json (plan.Forward setting) = list (string (codes "forward") ∷ or_null setting_json setting ∷ [])
plan_json (plan.ForwardPend setting) = list (string (codes "forward_pend") ∷ or_null setting_json setting ∷ [])

-- a replacement: status and information
abbrev pub replacement_json : Replacement → Data
replacement_json replacement = list (status_json replacement.status ∷ natural replacement.information ∷ [])

-- a completion routine's answer: its name, the mark, and the replacement or null
abbrev pub answer_json : Answer → Data
answer_json answer =
    list (string (answer_name answer.keep) ∷ boolean answer.mark ∷ or_null replacement_json answer.replacement ∷ [])

-- a cancel routine's answer
abbrev pub cancel_answer_json : CancelAnswer → Data
cancel_answer_json (cancel_answer.Finish information) = list (string (codes "finish") ∷ natural information ∷ [])
cancel_answer_json cancel_answer.Leave = list (string (codes "leave") ∷ [])

-- what a closure is shown
abbrev pub shown_json : Shown → Data
shown_json shown =
    list (or_null device_json shown.device ∷ natural shown.irp.slot ∷ natural shown.irp.use_no ∷ natural shown.major
    ∷ natural shown.location ∷ natural shown.word ∷ status_json shown.status ∷ natural shown.information
    ∷ boolean shown.pending_returned ∷ boolean shown.cancel ∷ natural shown.context ∷ boolean shown.has_lower ∷ [])

-- a question: which closure, what it was shown and what it answered
abbrev pub asked_json : Asked → Data
asked_json (asked.Dispatch id shown plan) =
    fields ((codes "dispatch", natural id.0) ∷ (codes "plan", plan_json plan) ∷ (codes "shown", shown_json shown) ∷ [])
asked_json (asked.Completion id shown answer) =
    fields ((codes "answer", answer_json answer) ∷ (codes "completion", routine_json id)
    ∷ (codes "shown", shown_json shown) ∷ [])
asked_json (asked.Cancel id shown answer) =
    fields ((codes "answer", cancel_answer_json answer) ∷ (codes "cancel", cancel_json id)
    ∷ (codes "shown", shown_json shown) ∷ [])

-- a call on a packet, by its name and what it names behind the packet
abbrev pub irp_call_json : List ℕ → IrpRef → List (List ℕ × Data) → Data
irp_call_json word irp others = fields ((codes "do", string word) ∷ (codes "irp", irp_json irp) ∷ others)

-- a call of a party on its packet, by its name and what it names behind the packet
abbrev pub party_call_json : List ℕ → Party → IrpRef → List (List ℕ × Data) → Data
party_call_json word party irp others =
    fields ((codes "by", party_json party) ∷ (codes "do", string word) ∷ (codes "irp", irp_json irp) ∷ others)

-- an entry's call: its name as `do` and its arguments, for a delete also the entry's lock, or null, and whether that
-- was known to be drained
abbrev pub call_json : Call → Option LockNo → Bool → Data
call_json (call.CreateDevice driver lock) _ _ =
    fields ((codes "do", string (codes "create_device")) ∷ (codes "driver", natural driver.0)
    ∷ (codes "lock", lock_json lock) ∷ [])
call_json (call.Attach device to) _ _ =
    fields ((codes "device", device_json device) ∷ (codes "do", string (codes "attach"))
    ∷ (codes "to", device_json to) ∷ [])
call_json (call.Detach lower) _ _ =
    fields ((codes "do", string (codes "detach")) ∷ (codes "lower", device_json lower) ∷ [])
call_json (call.Delete device) lock drained =
    fields ((codes "device", device_json device) ∷ (codes "do", string (codes "delete"))
    ∷ (codes "drained", boolean drained)
    ∷ (codes "lock", or_null lock_json lock) ∷ [])
call_json (call.Allocate size) _ _ =
    fields ((codes "do", string (codes "allocate")) ∷ (codes "size", natural size) ∷ [])
call_json (call.Free irp) _ _ = irp_call_json (codes "free") irp []
call_json (call.Reuse irp status) _ _ = irp_call_json (codes "reuse") irp ((codes "status", status_json status) ∷ [])
call_json (call.SetNext party irp major word) _ _ =
    party_call_json (codes "set_next") party irp ((codes "major", natural major) ∷ (codes "word", natural word) ∷ [])
call_json (call.CopyToNext party irp) _ _ = party_call_json (codes "copy_to_next") party irp []
call_json (call.Skip party irp) _ _ = party_call_json (codes "skip") party irp []
call_json (call.SetRoutine party irp setting) _ _ =
    party_call_json (codes "set_routine") party irp ((codes "set", setting_json setting) ∷ [])
call_json (call.MarkPending party irp) _ _ = party_call_json (codes "mark_pending") party irp []
call_json (call.CallDriver party irp target) _ _ =
    party_call_json (codes "call_driver") party irp ((codes "target", device_json target) ∷ [])
call_json (call.Complete party irp status information) _ _ =
    fields ((codes "by", party_json party) ∷ (codes "do", string (codes "complete"))
    ∷ (codes "information", natural information)
    ∷ (codes "irp", irp_json irp) ∷ (codes "status", status_json status) ∷ [])
call_json (call.FinishTaken irp token status information) _ _ =
    fields ((codes "do", string (codes "finish_taken")) ∷ (codes "information", natural information)
    ∷ (codes "irp", irp_json irp)
    ∷ (codes "status", status_json status) ∷ (codes "token", natural token) ∷ [])
call_json (call.SetCancelRoutine party irp cancel) _ _ =
    fields ((codes "by", party_json party) ∷ (codes "cancel", or_null cancel_json cancel)
    ∷ (codes "do", string (codes "set_cancel_routine")) ∷ (codes "irp", irp_json irp) ∷ [])
call_json (call.Cancel irp) _ _ = irp_call_json (codes "cancel") irp []
call_json (call.Look irp) _ _ = irp_call_json (codes "look") irp []

-- what Look shows of a packet
abbrev pub seen_json : Seen → Data
seen_json seen =
    list (owner_json seen.owner ∷ natural seen.current ∷ status_json seen.status ∷ natural seen.information
    ∷ boolean seen.cancel ∷ or_null cancel_json seen.cancel_routine ∷ boolean seen.pending_returned
    ∷ boolean seen.marked ∷ [])

-- a reply: its name, or its one value under its name
abbrev pub reply_json : Reply → Data
reply_json reply.Done = string (codes "done")
reply_json (reply.Device device) = fields ((codes "device", device_json device) ∷ [])
reply_json (reply.Irp irp) = fields ((codes "irp", irp_json irp) ∷ [])
reply_json (reply.Status status) = fields ((codes "status", status_json status) ∷ [])
reply_json (reply.Previous cancel) = fields ((codes "previous", or_null cancel_json cancel) ∷ [])
reply_json (reply.Cancelled cancelled) = fields ((codes "cancelled", boolean cancelled) ∷ [])
reply_json (reply.Seen seen) = fields ((codes "seen", seen_json seen) ∷ [])
reply_json (reply.Refused reason) = fields ((codes "refused", string (refusal_name reason)) ∷ [])

-- an entry: what was asked, the call, the entry's number, the reply and the seat
abbrev pub entry_json : Entry → Data
entry_json entry =
    fields ((codes "asked", list (map asked_json entry.asked))
    ∷ (codes "call", call_json entry.call entry.lock entry.drained)
    ∷ (codes "n", natural entry.number) ∷ (codes "reply", reply_json entry.reply) ∷ (codes "seat", natural entry.seat)
    ∷ [])

-- how many completion routines of each rule
abbrev pub completions_json : Known → Data
completions_json known =
    list (natural known.watch ∷ natural known.change ∷ natural known.keeper ∷ natural known.keep_on_error
    ∷ natural known.free ∷ [])

-- the same, and how many cancel routines
abbrev pub known_json : Known → Data
known_json known =
    list (natural known.watch ∷ natural known.change ∷ natural known.keeper ∷ natural known.keep_on_error
    ∷ natural known.free
    ∷ natural known.cancel ∷ [])

-- a major function code and its dispatch
abbrev pub handler_json : ℕ × DispatchId → Data
handler_json handler = list (natural handler.0 ∷ natural handler.1.0 ∷ [])

-- the driver that has these dispatches for these major function codes
abbrev pub driver_json : List (ℕ × DispatchId) → Data
driver_json handlers = list (map handler_json handlers)

-- the members of a header's line, but for the number of cancel slots, with the number of its form
abbrev pub header_members : ℕ → Header → List (List ℕ × Data) → List (List ℕ × Data)
header_members number header others =
    (codes "cancels", list (map cancel_rule_json header.cancels))
    ∷ (codes "completions", completions_json header.completions)
    ∷ (codes "dispatches", list (map known_json header.dispatches))
    ∷ (codes "drivers", list (map driver_json header.drivers))
    ∷ (codes "form", natural number) ∷ (codes "locks", natural header.locks) ∷ (codes "seats", natural header.seats)
    ∷ others

-- the line of a header of this form, which tells the number of cancel slots in form 2 alone
abbrev pub line_of_form : Form → Header → Data
line_of_form form.One header = fields (header_members 1 header [])
line_of_form (form.Two slots) header = fields (header_members 2 header ((codes "slots", natural slots) ∷ []))

-- the first line: what the transcript was made with
abbrev pub header_json : Header → Data
header_json header = line_of_form header.form header

-- what a step on a remove lock or on a cancel slot was answered
abbrev pub word_reply_json : WordReply → Data
word_reply_json word_reply.Acquired = fields ((codes "status", natural 0) ∷ [])
word_reply_json word_reply.DeletePending = fields ((codes "status", natural 0xc0000056) ∷ [])
word_reply_json word_reply.Done = string (codes "ok")
word_reply_json word_reply.SeatFull = string (codes "seat_full")
word_reply_json word_reply.NotHeld = string (codes "not_held")
word_reply_json word_reply.AlreadyRemoving = string (codes "already_removing")
word_reply_json word_reply.NoLock = string (codes "no_lock")
word_reply_json word_reply.Yes = string (codes "yes")
word_reply_json (word_reply.Busy word) = fields ((codes "busy", natural word) ∷ [])
word_reply_json word_reply.Standing = string (codes "standing")
word_reply_json (word_reply.Taken use_no) = fields ((codes "taken", natural use_no) ∷ [])
word_reply_json word_reply.Lost = string (codes "lost")
word_reply_json word_reply.Nothing = string (codes "nothing")
word_reply_json word_reply.Used = string (codes "used")
word_reply_json word_reply.NotStanding = string (codes "not_standing")
word_reply_json word_reply.NoSlot = string (codes "no_slot")
word_reply_json word_reply.NoToken = string (codes "no_token")

-- the line of a step on a remove lock, by its name and what it tells behind its place
abbrev pub locked_json : List ℕ → LockNo → WordLine → List (List ℕ × Data) → Data
locked_json name lock line others =
    fields ((codes "do", string name) ∷ (codes "lock", lock_json lock) ∷ (codes "reply", word_reply_json line.reply)
    ∷ (codes "seat", natural line.seat) ∷ (codes "step", natural line.step) ∷ others)

-- the same with a tag alone
abbrev pub tagged_json : List ℕ → LockNo → ℕ → WordLine → Data
tagged_json name lock tag line = locked_json name lock line ((codes "tag", natural tag) ∷ [])

-- the line of a step on a cancel slot, by its name
abbrev pub slot_json : List ℕ → ℕ → WordLine → Data
slot_json name slot line =
    fields ((codes "do", string name) ∷ (codes "reply", word_reply_json line.reply) ∷ (codes "seat", natural line.seat)
    ∷ (codes "slot", natural slot) ∷ (codes "step", natural line.step) ∷ [])

-- the line of a step that did this
abbrev pub line_of_act : Act → WordLine → Data
line_of_act (act.OnLock (on_lock.Acquire lock tag)) line = tagged_json (codes "acquire") lock tag line
line_of_act (act.OnLock (on_lock.Release lock tag)) line = tagged_json (codes "release") lock tag line
line_of_act (act.OnLock (on_lock.BeginRemove lock tag)) line = tagged_json (codes "begin_remove") lock tag line
line_of_act (act.OnLock (on_lock.Drained lock)) line = locked_json (codes "drained") lock line []
line_of_act (act.Hand hand) line =
    locked_json (codes "hand") hand.lock line ((codes "tag", natural hand.tag) ∷ (codes "to", natural hand.to) ∷ [])
line_of_act (act.OnSlot (on_slot.Publish slot)) line = slot_json (codes "publish") slot line
line_of_act (act.OnSlot (on_slot.Withdraw slot)) line = slot_json (codes "withdraw") slot line
line_of_act (act.OnSlot (on_slot.Request slot)) line = slot_json (codes "request") slot line
line_of_act (act.FinishTaken slot) line = slot_json (codes "finish_taken") slot line

-- a word line: what the step did, its seat and place, and what it was answered
abbrev pub word_json : WordLine → Data
word_json line = line_of_act line.act line

-- the line of the header, where there is one
abbrev pub header_lines : Option Header → List Data
header_lines None = []
header_lines (Some header) = header_json header ∷ []

-- the values of the lines, in order
abbrev pub lines : TranscriptValue → List Data
lines transcript =
    header_lines transcript.header ++ (map entry_json transcript.entries ++ map word_json transcript.words)

-- the bytes of lines
unfoldable pub text_of : List Data → List ℕ
text_of values = flat_map line_text values
