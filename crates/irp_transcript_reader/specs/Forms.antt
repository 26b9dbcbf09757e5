-- What each form of transcripts has. Form 2 has all that is read; form 1 has nothing of cancel slots, and no hand.
use Rattle.std.specs.Prelude.{◌&&◌, Bool, true, false, not}
use Rattle.std.specs.List.{list_all}
use Rattle.irp_types.specs.declared.answer.Plan.TheVariants as plans
use Rattle.irp_types.specs.declared.{asked.Asked.Asked, entry.Entry.Entry}
use Rattle.irp_types.specs.declared.asked.Asked.TheVariants as questions
use Rattle.irp_transcript.specs.Tokens.{needs_token}
use Rattle.irp_transcript.specs.declared.{header.Form.Form, word_line.Act.Act, word_line.WordLine.WordLine}
use Rattle.irp_transcript.specs.declared.word_line.WordReply.{WordReply}
use Rattle.irp_transcript.specs.declared.header.Form.TheVariants as forms
use Rattle.irp_transcript.specs.declared.word_line.Act.TheVariants as acts
use Rattle.irp_transcript.specs.declared.word_line.WordReply.TheVariants as word_replies

-- ---- form 1

-- a question that form 1 has: its plan holds no packet in a cancel slot
abbrev pub one_has_asked : Asked → Bool
one_has_asked (questions.Dispatch id shown plans.HoldSlot) = false
one_has_asked other = true

-- an entry that form 1 has: its call finishes no packet that was taken from a cancel slot
abbrev pub one_has_entry : Entry → Bool
one_has_entry entry = not (needs_token entry.call) && list_all one_has_asked entry.asked

-- a step that form 1 has: on a remove lock, and no hand
abbrev pub one_has_act : Act → Bool
one_has_act (acts.OnLock on) = true
one_has_act other = false

-- an answer that form 1 has: one of remove locks
abbrev pub one_has_reply : WordReply → Bool
one_has_reply word_replies.Acquired = true
one_has_reply word_replies.DeletePending = true
one_has_reply word_replies.Done = true
one_has_reply word_replies.SeatFull = true
one_has_reply word_replies.NotHeld = true
one_has_reply word_replies.AlreadyRemoving = true
one_has_reply word_replies.NoLock = true
one_has_reply word_replies.Yes = true
one_has_reply (word_replies.Busy word) = true
one_has_reply other = false

-- ---- each form

-- an entry that the form has
abbrev pub has_entry : Form → Entry → Bool
has_entry forms.One entry = one_has_entry entry
has_entry (forms.Two slots) entry = true

-- a word line that the form has
abbrev pub has_word : Form → WordLine → Bool
has_word forms.One line = one_has_act line.act && one_has_reply line.reply
has_word (forms.Two slots) line = true
