-- Where a packet is after a call that moved it, as the whole list of questions tells.
use Rattle.std.specs.Prelude.{ℕ, List, [], ◌∷◌, ◌++◌, codes, Option, None, Some, if◌then◌else◌}
use Rattle.std.specs.List.{filter_map}
use Rattle.std.specs.Option.{unwrap_or}
use Rattle.irp_types.specs.Calls.{Call}
use Rattle.irp_types.specs.Status.{cancelled, invalid_device_request}
use Rattle.irp_types.specs.Unwinding.{last_from}
use Rattle.irp_types.specs.declared.answer.Answer.{Answer}
use Rattle.irp_types.specs.declared.answer.CancelAnswer.TheVariants.{Finish as FinishCancelled, Leave}
use Rattle.irp_types.specs.declared.answer.Plan.TheVariants.{Finish, Hold, HoldSlot}
use Rattle.irp_types.specs.declared.answer.Replacement.{Replacement}
use Rattle.irp_types.specs.declared.asked.Asked.{Asked}
use Rattle.irp_types.specs.declared.asked.Asked.TheVariants.{Dispatch, Completion, Cancel}
use Rattle.irp_types.specs.declared.call.Call.TheVariants.{Complete, FinishTaken}
use Rattle.irp_types.specs.declared.reply.Reply.{Reply}
use Rattle.irp_types.specs.declared.reply.Reply.TheVariants.{Done}
use Rattle.irp_types.specs.declared.shown.Shown.{Shown}
use Rattle.irp_types.specs.declared.status.Status.{Status}
use Rattle.irp_names.specs.Replies.{reply_text}
use Rattle.irp_names.specs.Small.{device_text}
use Rattle.irp_names.specs.Statuses.{result_text}
use Rattle.irp_listing.specs.declared.outcome.Outcome.{Outcome}
use Rattle.irp_listing.specs.declared.outcome.Outcome.TheVariants.{Held, Kept, Stays, Completed}

-- a status and information
abbrev pub status_and : Status → ℕ → Replacement
status_and status information = record { status = status; information = information }

-- what a completion routine leaves: what it sets, or what it was shown
abbrev pub left_by : Shown → Answer → Replacement
left_by shown answer = unwrap_or answer.replacement (status_and shown.status shown.information)

-- the status and information that an answer gives the packet, if it does
abbrev pub given_by : Asked → Option Replacement
given_by (Dispatch id shown (Finish status information)) = Some (status_and status information)
given_by (Dispatch id shown other) = None
given_by (Completion id shown answer) = Some (left_by shown answer)
given_by (Cancel id shown (FinishCancelled information)) = Some (status_and cancelled information)
given_by (Cancel id shown Leave) = None

-- a packet that a routine kept for who set it, and one that has completed, with what was left
abbrev pub kept : Shown → Replacement → Outcome
kept shown left = Kept shown.device left.status left.information

abbrev pub completed : Replacement → Outcome
completed left = Completed left.status left.information

-- where an answer leaves the packet, if that settles it: a dispatch holds it, a completion routine keeps it, or a cancel
-- routine leaves it with its device
abbrev pub settled_by : Asked → Option Outcome
settled_by (Dispatch id shown (Hold cancel)) = Some (Held shown.device)
settled_by (Dispatch id shown HoldSlot) = Some (Held shown.device)
settled_by (Dispatch id shown other) = None
settled_by (Completion id shown answer) = if answer.keep then Some (kept shown (left_by shown answer)) else None
settled_by (Cancel id shown Leave) = Some Stays
settled_by (Cancel id shown (FinishCancelled information)) = None

-- what a packet is completed with where no answer gives anything: what the call says, or what a driver without a dispatch
-- for the major function code gives
abbrev pub first_result : Call → Replacement
first_result (Complete party irp status information) = status_and status information
first_result (FinishTaken irp token status information) = status_and status information
first_result other = status_and invalid_device_request 0

-- the first of these, or another where there is none
abbrev pub first_or : Outcome → List Outcome → Outcome
first_or other [] = other
first_or other (first ∷ rest) = first

-- where the packet is: where the first answer that settles it leaves it; if none does, it has completed with the last
-- status and information that an answer gave, or with those of the start where none gave any
abbrev pub outcome_from : Replacement → List Asked → Outcome
outcome_from start asked =
    first_or (completed (last_from start (filter_map given_by asked))) (filter_map settled_by asked)

-- the same after a call: it starts with what that says
abbrev pub outcome_of : Call → List Asked → Outcome
outcome_of call asked = outcome_from (first_result call) asked

-- where the packet is, in words
abbrev pub end_text : Outcome → List ℕ
end_text (Held device) = device_text device ++ codes " holds the packet"
end_text (Kept device status information) =
    device_text device ++ (codes " has the packet again: " ++ result_text status information)
end_text Stays = codes "the packet stays with its device"
end_text (Completed status information) = codes "completed: " ++ result_text status information

-- and what the caller gets
abbrev pub outcome_text : Outcome → Call → Reply → List ℕ
outcome_text outcome call Done = codes "= " ++ end_text outcome
outcome_text outcome call reply =
    codes "= " ++ (end_text outcome ++ (codes "; the caller gets " ++ reply_text call reply))
