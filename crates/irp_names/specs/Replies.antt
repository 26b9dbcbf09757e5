-- Replies in words.
use Rattle.std.specs.Prelude.{ℕ, ◌≡◌, true, false, List, [], ◌++◌, codes, Option, Some, None}
use Rattle.std.specs.Fmt.{decimal}
use Rattle.irp_types.specs.Calls.{Call}
use Rattle.irp_types.specs.declared.call.Call.TheVariants as call
use Rattle.irp_types.specs.declared.names.CancelId.{CancelId}
use Rattle.irp_types.specs.declared.names.DeviceId.{DeviceId}
use Rattle.irp_types.specs.declared.refusal.Refusal.{Refusal}
use Rattle.irp_types.specs.declared.reply.Seen.{Seen}
use Rattle.irp_types.specs.declared.reply.Reply.{Reply}
use Rattle.irp_types.specs.declared.reply.Reply.TheVariants as reply
use Rattle.irp_names.specs.Refusals.{refusal_name}
use Rattle.irp_names.specs.Small.{cancel_text, owner_text, packet_text, told_if}
use Rattle.irp_names.specs.Statuses.{result_text, status_text}

-- the device that an attach, a detach or another call is answered
abbrev pub answered_device : Call → DeviceId → List ℕ
answered_device (call.Attach above to) device = codes "attached above D" ++ decimal device.0
answered_device (call.Detach lower) device = codes "D" ++ (decimal device.0 ++ codes " is cut off")
answered_device _ device = codes "D" ++ decimal device.0

-- the cancel routine that a packet has
abbrev pub routine_set : Option CancelId → List ℕ
routine_set None = []
routine_set (Some id) = codes ", cancel routine " ++ (decimal id.0 ++ codes " set")

-- what Look shows
abbrev pub seen_text : Seen → List ℕ
seen_text seen =
    owner_text seen.owner ++ (codes ", current location " ++ (decimal seen.current
    ++ (codes ", " ++ (result_text seen.status seen.information
    ++ (told_if seen.cancel (codes ", cancelled") ++ (routine_set seen.cancel_routine
    ++ (told_if seen.pending_returned (codes ", PendingReturned")
    ++ told_if seen.marked (codes ", marked pending"))))))))

-- a reply; of a refusal its name
abbrev pub reply_text : Call → Reply → List ℕ
reply_text call reply.Done = codes "done"
reply_text call (reply.Device device) = answered_device call device
reply_text call (reply.Irp irp) = packet_text irp
reply_text call (reply.Status status) = status_text status
reply_text call (reply.Previous cancel) = codes "was " ++ cancel_text cancel
reply_text call (reply.Cancelled true) = codes "TRUE: its cancel routine ran"
reply_text call (reply.Cancelled false) = codes "FALSE: no cancel routine was set"
reply_text call (reply.Seen seen) = seen_text seen
reply_text call (reply.Refused refusal) = codes "refused: " ++ refusal_name refusal

-- what has the text of a refusal is that refusal
abbrev pub RefusalsAreToldApart : Type 0
RefusalsAreToldApart =
    (call another : Call) (told : Reply) (refusal : Refusal)
    → reply_text call told ≡ reply_text another (reply.Refused refusal) → told ≡ reply.Refused refusal
