-- Which transcripts are read again as they were written. Numbers are within the ranges of their types, which every value
-- in a program keeps, and a packet's slot is below 2 to the 32nd. Beside that there are five conditions: only a delete
-- has a lock; a seat is one that the header counts; a line has the header's form; a line is short; entries are few.
use Rattle.std.specs.Prelude.{ℕ, ◌≡◌, List, ◌<◌, ◌≤◌, ◌^◌, Bool, true, false, IfSome, length, Option, None, ⊤}
use Rattle.std.specs.List.{All}
use Rattle.serde_json.specs.Data.{Data}
use Rattle.serde_json.specs.Written.{compact_text}
use Rattle.irp_types.specs.Rules.{CanShow}
use Rattle.irp_types.specs.declared.{answer.Answer.Answer, answer.CancelAnswer.CancelAnswer, answer.Plan.Plan}
use Rattle.irp_types.specs.declared.{answer.Replacement.Replacement, asked.Asked.Asked}
use Rattle.irp_types.specs.declared.{entry.Entry.Entry, location.Owner.Owner}
use Rattle.irp_types.specs.declared.{names.LockNo.LockNo}
use Rattle.irp_types.specs.declared.{reply.Reply.Reply, reply.Seen.Seen, shown.Shown.Shown}
use Rattle.irp_types.specs.declared.status.Status.{Status}
use Rattle.irp_types.specs.declared.answer.CancelAnswer.TheVariants as cancel_answer
use Rattle.irp_types.specs.declared.answer.Plan.TheVariants as plan
use Rattle.irp_types.specs.declared.asked.Asked.TheVariants as asked
use Rattle.irp_types.specs.Calls.{Call}
use Rattle.irp_types.specs.declared.call.Call.TheVariants as call
use Rattle.irp_types.specs.declared.location.Owner.TheVariants as owner
use Rattle.irp_types.specs.declared.reply.Reply.TheVariants as reply
use Rattle.irp_transcript.specs.Transcripts.{TranscriptValue}
use Rattle.irp_transcript.specs.declared.{header.Header.Header, word_line.Act.Act, word_line.WordLine.WordLine}
use Rattle.irp_transcript.specs.declared.word_line.WordReply.{WordReply}
use Rattle.irp_transcript.specs.declared.word_line.WordReply.TheVariants as word_reply
use Rattle.irp_transcript_reader.specs.Forms.{has_entry, has_word}
use Rattle.irp_transcript_reader.specs.Reading.{hands_within, most_bytes, most_entries}
use Rattle.irp_transcript_writer.specs.Lines.{entry_json, header_json, word_json}
use Rattle.irp_fast_reader.specs.Parts.{CancelFits, DeviceFits, EachFits, IrpFits, LockFits, SettingFits, StatusFits, act_parts, parts_of}

-- ---- ranges of the parts of an entry

abbrev pub OwnerFits : Owner → Type 0
OwnerFits (owner.Device device) = DeviceFits device
OwnerFits other = ⊤

abbrev pub ReplacementFits : Replacement → Type 0
ReplacementFits replacement = StatusFits replacement.status × (replacement.information < 2 ^ 64)

abbrev pub PlanFits : Plan → Type 0
PlanFits (plan.Finish status information) = StatusFits status × (information < 2 ^ 64)
PlanFits (plan.Hold cancel) = IfSome cancel CancelFits
PlanFits (plan.Forward setting) = IfSome setting SettingFits
PlanFits (plan.ForwardPend setting) = IfSome setting SettingFits
PlanFits other = ⊤

abbrev pub AnswerFits : Answer → Type 0
AnswerFits answer = IfSome answer.replacement ReplacementFits

abbrev pub CancelAnswerFits : CancelAnswer → Type 0
CancelAnswerFits (cancel_answer.Finish information) = information < 2 ^ 64
CancelAnswerFits cancel_answer.Leave = ⊤

-- what is shown is within its ranges, and the slot's number has 32 bits
abbrev pub ShownFits : Shown → Type 0
ShownFits shown = CanShow shown × (shown.irp.slot < 2 ^ 32)

abbrev pub AskedFits : Asked → Type 0
AskedFits (asked.Dispatch id shown plan) = (id.0 < 2 ^ 32) × ShownFits shown × PlanFits plan
AskedFits (asked.Completion id shown answer) = (id.no < 2 ^ 32) × ShownFits shown × AnswerFits answer
AskedFits (asked.Cancel id shown answer) = CancelFits id × ShownFits shown × CancelAnswerFits answer

-- all that a call tells under its keys fits
abbrev pub CallFits : Call → Type 0
CallFits call = EachFits (parts_of call)

abbrev pub SeenFits : Seen → Type 0
SeenFits seen =
    OwnerFits seen.owner × (seen.current < 2 ^ 32) × StatusFits seen.status × (seen.information < 2 ^ 64)
    × IfSome seen.cancel_routine CancelFits

abbrev pub ReplyFits : Reply → Type 0
ReplyFits (reply.Device device) = DeviceFits device
ReplyFits (reply.Irp irp) = IrpFits irp
ReplyFits (reply.Status status) = StatusFits status
ReplyFits (reply.Previous cancel) = IfSome cancel CancelFits
ReplyFits (reply.Seen seen) = SeenFits seen
ReplyFits other = ⊤

-- ---- lines

-- an entry of a delete tells its lock, and whether that was known to be drained; any other entry has no lock
abbrev pub TellsLock : Call → Option LockNo → Bool → Type 0
TellsLock (call.Delete device) lock drained = IfSome lock LockFits
TellsLock other lock drained = (lock ≡ None) × (drained ≡ false)

-- an entry that its form tells whole
pub record EntryFits (entry : Entry) : Type 0 where
  pub number : entry.number < 2 ^ 64
  pub seat : entry.seat < 2 ^ 32
  pub call : CallFits entry.call
  pub lock : TellsLock entry.call entry.lock entry.drained
  pub asked : All AskedFits entry.asked
  pub reply : ReplyFits entry.reply

-- all that an act tells under its keys fits
abbrev pub ActFits : Act → Type 0
ActFits act = EachFits (act_parts act)

abbrev pub WordReplyFits : WordReply → Type 0
WordReplyFits (word_reply.Busy word) = word < 2 ^ 64
WordReplyFits (word_reply.Taken use_no) = use_no < 2 ^ 64
WordReplyFits other = ⊤

-- a word line that its form tells whole
pub record WordFits (line : WordLine) : Type 0 where
  pub seat : line.seat < 2 ^ 32
  pub step : line.step < 2 ^ 32
  pub act : ActFits line.act
  pub reply : WordReplyFits line.reply

-- the line, without its newline, is written of the entry
abbrev pub IsWritten : List ℕ → Entry → Type 0
IsWritten line entry = line ≡ compact_text (entry_json entry)

-- the line of this form isn't longer than a reader takes
abbrev pub IsShort : Data → Type 0
IsShort form = length (compact_text form) ≤ most_bytes

-- ---- transcripts

-- what must hold of an entry under the header, beside that its line is short: it fits, its seat is one that the header
-- counts, and its form is the header's
pub record EntryUnder (header : Header) (entry : Entry) : Type 0 where
  pub fits : EntryFits entry
  pub seated : entry.seat < header.seats
  pub of_form : has_entry header.form entry ≡ true

-- the same of a word line, and of the seat that it hands to
pub record WordUnder (header : Header) (line : WordLine) : Type 0 where
  pub fits : WordFits line
  pub seated : line.seat < header.seats
  pub hands : hands_within header.seats line.act ≡ true
  pub of_form : has_word header.form line ≡ true

-- this holds of the value, and its line is short
abbrev pub LineFits : {T : Type 0} → (T → Type 0) → (T → Data) → T → Type 0
LineFits Holds json value = Holds value × IsShort (json value)

-- each line fits under the header, whose own line is short
pub record FitsUnder (transcript : TranscriptValue) (header : Header) : Type 0 where
  pub short : IsShort (header_json header)
  pub few : length transcript.entries ≤ most_entries
  pub entries : All (LineFits (EntryUnder header) entry_json) transcript.entries
  pub words : All (LineFits (WordUnder header) word_json) transcript.words

-- a transcript that is read again as it was written
abbrev pub Fits : TranscriptValue → Type 0
Fits transcript = IfSome transcript.header (FitsUnder transcript)
