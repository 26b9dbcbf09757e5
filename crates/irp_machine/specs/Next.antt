-- What a seat does next.
use Rattle.std.specs.Prelude.{ℕ, ◌&&◌, Bool, true, not, if◌then◌else◌, List, slice_get, Option, Some, None, is_some, unwrap_or, position}
use Rattle.std.specs.Option.{option_map_or, option_and_then}
use Rattle.irp_types.specs.Calls.{Call}
use Rattle.irp_types.specs.Calls as calls
use Rattle.irp_types.specs.declared.call.Call.TheVariants.{FinishTaken, Look}
use Rattle.irp_types.specs.declared.call.Call.TheVariants.{Allocate as AllocateCall}
use Rattle.irp_types.specs.declared.names.IrpRef.{IrpRef}
use Rattle.irp_types.specs.declared.reply.Reply.{Reply}
use Rattle.irp_types.specs.declared.reply.Reply.TheVariants as manager
use Rattle.irp_transcript.specs.declared.word_line.WordReply.TheVariants.{NoToken}
use Rattle.irp_script_reader.specs.declared.act.StepAct.{StepAct}
use Rattle.irp_script_reader.specs.declared.act.StepAct.TheVariants as does
use Rattle.irp_steps.specs.Labels.{label_of, packet_of}
use Rattle.irp_plain.specs.declared.parts.Stage.{Stage}
use Rattle.irp_plain.specs.declared.parts.Stage.TheVariants as stages
use Rattle.irp_plain.specs.declared.parts.Taken.{Taken}
use Rattle.irp_plain.specs.declared.parts.After.{After}
use Rattle.irp_plain.specs.declared.parts.After.TheVariants.{In, Told, Binds}
use Rattle.irp_plain.specs.declared.parts.NewLabel.{NewLabel}
use Rattle.irp_plain.specs.declared.parts.Change.{Change}
use Rattle.irp_machine.specs.declared.parts.Planned.{Planned}
use Rattle.irp_machine.specs.declared.parts.Calling.{Calling}
use Rattle.irp_machine.specs.declared.parts.Next.{Next}
use Rattle.irp_machine.specs.declared.parts.Next.TheVariants.{Changes, Calls}
use Rattle.irp_plain.specs.declared.answered.Answered.TheVariants.{Reply as Replied}
use Rattle.irp_plain.specs.Seats.{SeatValue, is_taken}
use Rattle.irp_machine.specs.Standings.{StandingValue}
use Rattle.irp_plain.specs.Changes as change

-- the slot from which the token of a finish is to come, where the act is one
abbrev pub slot_of : StepAct → Option ℕ
slot_of (does.Call (FinishTaken irp slot status information)) = Some slot
slot_of other = None

-- the place of the use that an act finishes, where it finishes one that the seat has
abbrev pub spent_by : List Taken → StepAct → Option ℕ
spent_by taken act = option_and_then (λ slot. position (is_taken slot) taken) (slot_of act)

-- a finish for which the seat has no token
abbrev pub is_tokenless : List Taken → StepAct → Bool
is_tokenless taken act = is_some (slot_of act) && not (is_some (spent_by taken act))

-- the number of the use that a seat took, at a place
abbrev pub use_at : List Taken → Option ℕ → ℕ
use_at taken None = 0
use_at taken (Some place) = option_map_or (λ (one : Taken). one.use_no) (slice_get taken place) 0

-- the call of an act, of this packet and with this token; a look where the act is none
abbrev pub call_with : StepAct → IrpRef → ℕ → Call
call_with (does.Call call) irp token = calls.call_with call irp token
call_with (does.Allocate size label) irp token = AllocateCall size
call_with other irp token = Look irp

-- an act calls the manager, of this packet
abbrev pub calling : List Taken → StepAct → IrpRef → Next
calling taken act irp =
    Calls (record { call = call_with act irp (use_at taken (spent_by taken act)); spends = spent_by taken act })

-- what an act does next that names this packet
abbrev pub with_packet : StandingValue → SeatValue → StepAct → IrpRef → Next
with_packet standing seat (does.Publish slot named) irp =
    Changes (change.publish standing.slots slot seat.stage irp.use_no)
with_packet standing seat act irp = calling seat.taken act irp

-- what an act does next that may name a packet by a label: it reads the label, where that is a step of its own; it
-- binds the label, where that is; and else it goes on with the packet
abbrev pub naming_at : Stage → StandingValue → SeatValue → Planned → Next
naming_at (stages.Answered irp) standing seat planned = Changes (change.bound (unwrap_or (label_of planned.act) 0) irp)
naming_at (stages.Read irp) standing seat planned = with_packet standing seat planned.act irp
naming_at stages.Between standing seat planned =
    if planned.reads_alone then Changes (change.only (In (stages.Read (packet_of standing.labels planned.act))))
    else with_packet standing seat planned.act (packet_of standing.labels planned.act)
naming_at other standing seat planned = with_packet standing seat planned.act (packet_of standing.labels planned.act)

abbrev pub naming : StandingValue → SeatValue → Planned → Next
naming standing seat planned = naming_at seat.stage standing seat planned

-- what a seat does next in an act that isn't at locks or slots alone
abbrev pub with_token : StandingValue → SeatValue → Planned → Next
with_token standing seat planned =
    if is_tokenless seat.taken planned.act then Changes (change.told NoToken) else naming standing seat planned

-- what a seat does next in an act
abbrev pub next_by : StepAct → StandingValue → SeatValue → Planned → Next
next_by (does.OnLock on) standing seat planned = Changes (change.on_lock standing.words seat on)
next_by (does.Hand hand) standing seat planned = Changes (change.hand standing.words standing.seats seat hand)
next_by (does.Withdraw slot) standing seat planned = Changes (change.withdraw standing.slots slot)
next_by (does.Request slot) standing seat planned = Changes (change.request standing.slots slot seat.stage)
next_by other standing seat planned = with_token standing seat planned

abbrev pub next_of : StandingValue → SeatValue → Planned → Next
next_of standing seat planned = next_by planned.act standing seat planned

-- ---- behind a call

-- the packet that a label is to stand for behind a call, where the act binds one
abbrev pub binding_of : Option ℕ → Reply → Option NewLabel
binding_of (Some label) (manager.Irp irp) = Some (record { label = label; irp = irp })
binding_of label reply = None

abbrev pub binding : StepAct → Reply → Option NewLabel
binding act reply = binding_of (label_of act) reply

-- how far a seat is behind a call
abbrev pub after_call : Bool → Option NewLabel → Reply → After
after_call true (Some label) reply = Binds (Replied reply) label.irp
after_call alone bind reply = Told (Replied reply)

-- the place of the use that is spent by a finish that was answered so
abbrev pub spent : Option ℕ → Reply → Option ℕ
spent spends manager.Done = spends
spent spends other = None

-- what a call changes that was answered so
abbrev pub called : Planned → Calling → Reply → Change
called planned calling reply =
    record (change.only (after_call planned.binds_alone (binding planned.act reply) reply)) {
      label = if planned.binds_alone then None else binding planned.act reply;
      spends = spent calling.spends reply;
    }
