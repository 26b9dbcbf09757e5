-- When a condition holds of what an order leaves.
use Rattle.std.specs.Prelude.{ℕ, ◌≡◌, ◌⊎◌, ◌<◌, ◌≤◌, ◌/◌, ◌%◌, ◌==◌, Bool, true, false, Option, None, Some, slice_get}
use Rattle.irp_types.specs.declared.location.Owner.TheVariants as owner
use Rattle.irp_types.specs.declared.reply.Reply.{Reply}
use Rattle.irp_types.specs.declared.reply.Reply.TheVariants as reply
use Rattle.irp_transcript.specs.declared.word_line.WordReply.{WordReply}
use Rattle.irp_transcript.specs.declared.word_line.WordReply.TheVariants as word
use Rattle.irp_condition.specs.declared.condition.Comparison.{Comparison}
use Rattle.irp_condition.specs.declared.condition.Comparison.TheVariants.{Equal, Other, Below, AtMost, Above, AtLeast}
use Rattle.irp_condition.specs.declared.condition.Condition.{Condition}
use Rattle.irp_condition.specs.declared.condition.Condition.TheVariants.{Or', And', Not', Is, Compare}
use Rattle.irp_condition.specs.declared.condition.Fact.{Fact}
use Rattle.irp_condition.specs.declared.condition.Fact.TheVariants as fact
use Rattle.irp_condition.specs.declared.condition.Term.{Term}
use Rattle.irp_condition.specs.declared.condition.Term.TheVariants as term
use Rattle.irp_condition.specs.declared.facts.Facts.{Facts}
use Rattle.irp_condition.specs.declared.facts.Packet.{Packet}
use Rattle.irp_condition.specs.declared.facts.Told.{Told}
use Rattle.irp_condition.specs.declared.facts.Told.TheVariants as told
use Rattle.irp_condition.specs.declared.value.Answer.TheVariants as answer
use Rattle.irp_condition.specs.declared.value.Value.{Value}
use Rattle.irp_condition.specs.declared.value.Value.TheVariants.{Missing, Truth, Number, Owner, Refused, Answer}

-- ---- what a fact is

-- the answer of a step on a remove lock or on a cancel slot: an acquire's is a status
abbrev pub answer_of : WordReply → Value
answer_of word.Acquired = Number 0
answer_of word.DeletePending = Number 3221225558
answer_of word.Done = Answer answer.Done
answer_of word.SeatFull = Answer answer.SeatFull
answer_of word.NotHeld = Answer answer.NotHeld
answer_of word.AlreadyRemoving = Answer answer.AlreadyRemoving
answer_of word.NoLock = Answer answer.NoLock
answer_of word.Yes = Answer answer.Yes
answer_of (word.Busy word) = Answer answer.Busy
answer_of word.Standing = Answer answer.Standing
answer_of (word.Taken use_no) = Answer answer.Taken
answer_of word.Lost = Answer answer.Lost
answer_of word.Nothing = Answer answer.Nothing
answer_of word.Used = Answer answer.Used
answer_of word.NotStanding = Answer answer.NotStanding
answer_of word.NoSlot = Answer answer.NoSlot
answer_of word.NoToken = Answer answer.NoToken

-- the reply of a call: a new packet is the number of its use, a cancel routine its number, a device the device itself,
-- and what a Look sees is the packet's owner
abbrev pub reply_of : Reply → Value
reply_of reply.Done = Answer answer.Done
reply_of (reply.Device device) = Owner (owner.Device device)
reply_of (reply.Irp irp) = Number irp.use_no
reply_of (reply.Status status) = Number status.0
reply_of (reply.Previous None) = Missing
reply_of (reply.Previous (Some cancel)) = Number cancel.0
reply_of (reply.Cancelled was_set) = Truth was_set
reply_of (reply.Seen seen) = Owner seen.owner
reply_of (reply.Refused refusal) = Refused refusal

abbrev pub told_value : Told → Value
told_value (told.Word reply) = answer_of reply
told_value (told.Call reply) = reply_of reply

-- what the step was answered; missing where it was passed over
abbrev pub reply_value : Option (Option Told) → Value
reply_value None = Missing
reply_value (Some None) = Missing
reply_value (Some (Some told)) = told_value told

-- whether the step was made; one that was passed over wasn't answered
abbrev pub is_made : Option (Option Told) → Bool
is_made None = false
is_made (Some None) = false
is_made (Some (Some told)) = true

-- a fact of a live packet
abbrev pub packet_value : Fact → Packet → Value
packet_value (fact.Owner label) packet = Owner packet.owner
packet_value (fact.Status label) packet = Number packet.status.0
packet_value (fact.Information label) packet = Number packet.information
packet_value (fact.Current label) packet = Number packet.current
packet_value (fact.Cancel label) packet = Truth packet.cancel
packet_value fact packet = Missing

-- a fact of the packet that a label names; missing where it names no live packet
abbrev pub label_value : Fact → Option (Option Packet) → Value
label_value fact None = Missing
label_value fact (Some None) = Missing
label_value fact (Some (Some packet)) = packet_value fact packet

-- whether a label names a live packet
abbrev pub is_live : Option (Option Packet) → Bool
is_live None = false
is_live (Some None) = false
is_live (Some (Some packet)) = true

-- how many references the word of a lock counts
abbrev pub held_value : Option ℕ → Value
held_value None = Missing
held_value (Some word) = Number (word / 2)

-- whether the word of a lock has the removed bit
abbrev pub removing_value : Option ℕ → Value
removing_value None = Missing
removing_value (Some word) = Truth (word % 2 == 1)

abbrev pub is_true : Option Bool → Bool
is_true None = false
is_true (Some truth) = truth

abbrev pub value_of : Facts → Fact → Value
value_of facts (fact.Reply step) = reply_value (slice_get facts.replies step)
value_of facts (fact.Made step) = Truth (is_made (slice_get facts.replies step))
value_of facts (fact.Owner label) = label_value (fact.Owner label) (slice_get facts.labels label)
value_of facts (fact.Status label) = label_value (fact.Status label) (slice_get facts.labels label)
value_of facts (fact.Information label) = label_value (fact.Information label) (slice_get facts.labels label)
value_of facts (fact.Current label) = label_value (fact.Current label) (slice_get facts.labels label)
value_of facts (fact.Cancel label) = label_value (fact.Cancel label) (slice_get facts.labels label)
value_of facts (fact.Live label) = Truth (is_live (slice_get facts.labels label))
value_of facts (fact.Deleted device) = Truth (is_true (slice_get facts.deleted device))
value_of facts (fact.Held lock) = held_value (slice_get facts.locks lock)
value_of facts (fact.Removing lock) = removing_value (slice_get facts.locks lock)

abbrev pub term_value : Facts → Term → Value
term_value facts (term.Fact fact) = value_of facts fact
term_value facts (term.Constant value) = value

-- ---- when a condition holds

-- only numbers are below or above each other
abbrev pub IsBelow : Value → Value → Type 0
IsBelow (Number left) (Number right) = left < right
IsBelow left right = ⊥

abbrev pub IsAtMost : Value → Value → Type 0
IsAtMost (Number left) (Number right) = left ≤ right
IsAtMost left right = ⊥

abbrev pub Compares : Value → Comparison → Value → Type 0
Compares left Equal right = left ≡ right
Compares left Other right = left ≡ right → ⊥
Compares left Below right = IsBelow left right
Compares left AtMost right = IsAtMost left right
Compares left Above right = IsBelow right left
Compares left AtLeast right = IsAtMost right left

-- the condition holds of these facts
abbrev pub Holds : Facts → Condition → Type 0
Holds facts (Or' p left q right) = Holds facts left ⊎ Holds facts right
Holds facts (And' p left q right) = Holds facts left × Holds facts right
Holds facts (Not' p inner) = Holds facts inner → ⊥
Holds facts (Is term) = term_value facts term ≡ Truth true
Holds facts (Compare left by right) = Compares (term_value facts left) by (term_value facts right)
