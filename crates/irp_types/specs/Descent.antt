-- Descent: which devices a sent packet came to, in which location, what each planned, and what is left of the packet.
use Rattle.std.specs.Prelude.{ℕ, ◌≡◌, ◌+◌, ◌-◌, ◌<◌, ◌≤◌, ◌==◌, Bool, true, false, ◌&&◌, ◌||◌, if◌then◌else◌, is_some}
use Rattle.std.specs.Prelude.{List, [], ◌∷◌, ◌++◌, map, filter, length, take, reverse, count_by, slice_index_or, Option}
use Rattle.std.specs.Prelude.{Some, None, MatchOption, EachIndex, unwrap_or}
use Rattle.std.specs.List.{list_any, flat_map, last_or, AllByRecursion}
use Rattle.std.specs.Option.{option_map_or}
use Rattle.irp_types.specs.Status.{pending, invalid_device_request}
use Rattle.irp_types.specs.Rules.{is_plan_allowed}
use Rattle.irp_types.specs.Packet.{PacketValue, size_of, location_at, with_status}
use Rattle.irp_types.specs.Unwinding.{Asking, as_asked, Unwound}
use Rattle.irp_types.specs.Stacks.{DevicesValue, stack_of, stack_size_of, lower_of, facts_of}
use Rattle.irp_types.specs.State.{Tables, dispatch_for, known_of}
use Rattle.irp_types.specs.declared.status.Status.{Status}
use Rattle.irp_types.specs.declared.names.IrpRef.{IrpRef}
use Rattle.irp_types.specs.declared.names.DispatchId.{DispatchId}
use Rattle.irp_types.specs.declared.location.Location.{Location}
use Rattle.irp_types.specs.declared.location.Owner.TheVariants.{Device}
use Rattle.irp_types.specs.declared.location.Preparation.TheVariants.{Nothing}
use Rattle.irp_types.specs.declared.routine.Setting.{Setting}
use Rattle.irp_types.specs.declared.routine.Known.{Known}
use Rattle.irp_types.specs.declared.shown.Shown.{Shown}
use Rattle.irp_types.specs.declared.answer.Plan.{Plan}
use Rattle.irp_types.specs.declared.answer.Plan.TheVariants.{Finish, Hold, HoldSlot, Skip, Forward, ForwardPend}
use Rattle.irp_types.specs.declared.asked.Asked.{Asked}
use Rattle.irp_types.specs.declared.asked.Asked.TheVariants.{Dispatch}

-- a device that the packet came to, the location it came in, and what its dispatch planned: nothing where the
-- driver has no dispatch for the major function code
pub record Frame : Type 0 where
  pub device : ℕ
  pub location : ℕ
  pub plan : Option Plan

-- whether a plan copies the location to the next lower one
abbrev pub is_copying : Plan → Bool
is_copying (Finish status information) = false
is_copying (Hold cancel) = false
is_copying HoldSlot = false
is_copying Skip = false
is_copying (Forward set) = true
is_copying (ForwardPend set) = true

-- whether a plan passes the packet down to the next lower device
abbrev pub is_passing : Plan → Bool
is_passing (Finish status information) = false
is_passing (Hold cancel) = false
is_passing HoldSlot = false
is_passing Skip = true
is_passing (Forward set) = true
is_passing (ForwardPend set) = true

-- whether a plan marks its location pending
abbrev pub marks_location : Plan → Bool
marks_location (Finish status information) = false
marks_location (Hold cancel) = true
marks_location HoldSlot = true
marks_location Skip = false
marks_location (Forward set) = false
marks_location (ForwardPend set) = true

-- the setting that a plan puts into the next lower location
abbrev pub set_by : Plan → Option Setting
set_by (Finish status information) = None
set_by (Hold cancel) = None
set_by HoldSlot = None
set_by Skip = None
set_by (Forward set) = set
set_by (ForwardPend set) = set

-- whether a frame's plan passes a test; none does where there is no plan
abbrev pub plans : (Plan → Bool) → Frame → Bool
plans test frame = option_map_or test frame.plan false

-- the location of the first frame
abbrev pub first_location : PacketValue → ℕ
first_location packet = packet.current - 1

-- what stands for the last frame of an empty list
abbrev pub no_frame : Frame
no_frame = record { device = 0; location = 0; plan = None }

-- the frame in which a descent ends
abbrev pub last_frame : List Frame → Frame
last_frame frames = unwrap_or (last_or None frames) no_frame

-- the frames in one location
abbrev pub frames_in : List Frame → ℕ → List Frame
frames_in frames number = filter (λ frame. frame.location == number) frames

-- the dispatch of a device's driver for a major function code
abbrev pub dispatch_at : Tables → DevicesValue → ℕ → ℕ → Option DispatchId
dispatch_at tables devices device major = dispatch_for tables (facts_of devices device).driver major

-- what the dispatch of a frame is shown
abbrev pub shown_to : IrpRef → PacketValue → DevicesValue → Frame → Shown
shown_to irp packet devices frame =
    let content = location_at packet (first_location packet) in
    record {
      device = Some (record { 0 = frame.device });
      irp = irp;
      major = content.major;
      location = frame.location;
      word = content.word;
      status = packet.status;
      information = packet.information;
      pending_returned = false;
      cancel = packet.cancel;
      context = 0;
      has_lower = is_some (lower_of devices frame.device);
    }

-- a dispatch is there, and its plan is allowed, given the routines that it may name
abbrev pub IsPlanOf : Tables → DispatchId → Shown → Option Plan → Type 0
IsPlanOf tables dispatch shown plan =
    (known : Known) × (answer : Plan) × (known_of tables dispatch ≡ Some known) × (plan ≡ Some answer)
    × (is_plan_allowed known shown answer ≡ true)

-- a frame has no plan exactly where its driver has no dispatch for the major function code, and else one that is
-- allowed
abbrev pub IsPlannedAs : Tables → DevicesValue → Frame → Shown → Type 0
IsPlannedAs tables devices frame shown =
    MatchOption (dispatch_at tables devices frame.device shown.major) (frame.plan ≡ None)
    (λ dispatch. IsPlanOf tables dispatch shown frame.plan)

-- a frame of the descent of this packet was asked what it is shown of it, and planned as it may
abbrev pub IsPlanned : Tables → IrpRef → PacketValue → DevicesValue → Frame → Type 0
IsPlanned tables irp packet devices frame = IsPlannedAs tables devices frame (shown_to irp packet devices frame)

-- the question to a dispatch, where there is one
abbrev pub as_question : Shown → Option DispatchId → Option Plan → List Asked
as_question shown None plan = []
as_question shown (Some dispatch) None = []
as_question shown (Some dispatch) (Some plan) = Dispatch dispatch shown plan ∷ []

-- the question at a frame
abbrev pub question_at : Tables → DevicesValue → Frame → Shown → List Asked
question_at tables devices frame shown =
    as_question shown (dispatch_at tables devices frame.device shown.major) frame.plan

-- the questions to dispatches, in the order of the frames
abbrev pub questions_of : Tables → IrpRef → PacketValue → DevicesValue → List Frame → List Asked
questions_of tables irp packet devices frames =
    flat_map (λ frame. question_at tables devices frame (shown_to irp packet devices frame)) frames

-- the devices from the target down, this many
abbrev pub devices_down : DevicesValue → ℕ → ℕ → List ℕ
devices_down devices target count = take count (reverse (take (stack_size_of devices target) (stack_of devices target)))

-- the frames of one descent: they go down the stack from the target; the location of each is the first one less the
-- copies made before it; all but the last pass the packet down; each has its plan
pub record AreFrames (tables : Tables) (irp : IrpRef) (devices : DevicesValue) (packet : PacketValue) (target : ℕ)
    (frames : List Frame) : Type 0 where
  pub some : 0 < length frames
  pub devices_are : map (λ frame. frame.device) frames ≡ devices_down devices target (length frames)
  pub locations :
      EachIndex frames
      (λ place. (slice_index_or frames place no_frame).location + count_by (plans is_copying) (take place frames)
      ≡ first_location packet)
  pub down : AllByRecursion (λ frame. plans is_passing frame ≡ true) (take (length frames - 1) frames)
  pub stops : plans is_passing (last_frame frames) ≡ false
  pub planned : AllByRecursion (IsPlanned tables irp packet devices) frames

-- what a frame that copied to a location has set there: the last one in the location above
abbrev pub setting_below : List Frame → ℕ → Option Setting
setting_below frames number = option_map_or set_by (last_frame (frames_in frames (number + 1))).plan None

-- a location once the frames have used it: its device is that of the last frame in it, its content that of the first
-- location, its routine the one that was copied to it (in the first location the one that was there), and it is marked
-- if it was or if a frame in it pends
abbrev pub used_location : PacketValue → List Frame → ℕ → Location
used_location packet frames number =
    let first = first_location packet in
    let content = location_at packet first in
    record {
      device = Some (record { 0 = (last_frame (frames_in frames number)).device });
      major = content.major;
      word = content.word;
      setting = if number == first then content.setting else setting_below frames number;
      pending = ((number == first) && content.pending) || list_any (plans marks_location) (frames_in frames number);
    }

-- the packet when the last frame has answered, before the status of a finish or the owner of a hold is written
pub record PassedDown (packet : PacketValue) (frames : List Frame) (reached : PacketValue) : Type 0 where
  pub size : size_of reached ≡ size_of packet
  pub lowest : 1 ≤ (last_frame frames).location
  pub used :
      (number : ℕ) → (last_frame frames).location ≤ number → number ≤ first_location packet
      → location_at reached number ≡ used_location packet frames number
  pub below :
      (number : ℕ) → 1 ≤ number → number < (last_frame frames).location
      → location_at reached number ≡ location_at packet number
  pub above : (number : ℕ) → first_location packet < number → location_at reached number ≡ location_at packet number
  pub others :
      reached
      ≡ record packet { locations = reached.locations; current = (last_frame frames).location; preparation = Nothing }

-- how a descent ends: the last device holds the packet, with a cancel routine or for a cancel slot, or it is finished
-- and unwound
abbrev pub Ends : IrpRef → Frame → PacketValue → List Asking → PacketValue → Option Plan → Type 0
Ends irp last reached asked new None = Unwound irp (with_status reached invalid_device_request 0) asked new
Ends irp last reached asked new (Some (Finish status information)) =
    Unwound irp (with_status reached status information) asked new
Ends irp last reached asked new (Some (Hold cancel)) =
    (asked ≡ []) × (new ≡ record reached { owner = Device (record { 0 = last.device }); cancel_routine = cancel })
Ends irp last reached asked new (Some HoldSlot) =
    (asked ≡ [])
    × (new ≡ record reached { owner = Device (record { 0 = last.device }); cancel_routine = None; slot_held = true })
Ends irp last reached asked new (Some Skip) = ⊥
Ends irp last reached asked new (Some (Forward set)) = ⊥
Ends irp last reached asked new (Some (ForwardPend set)) = ⊥

-- the status that the last frame finishes with; PENDING where it doesn't finish
abbrev pub final_status : Option Plan → Status
final_status None = invalid_device_request
final_status (Some (Finish status information)) = status
final_status (Some (Hold cancel)) = pending
final_status (Some HoldSlot) = pending
final_status (Some Skip) = pending
final_status (Some (Forward set)) = pending
final_status (Some (ForwardPend set)) = pending

-- the status of the reply: PENDING if some frame pends, else the one that the packet was finished with
abbrev pub replied_status : List Frame → Status
replied_status frames =
    if list_any (plans marks_location) frames then pending else final_status (last_frame frames).plan

-- a packet was sent to the target: what was asked, the packet that is left, and the status of the reply
pub record Descended (tables : Tables) (irp : IrpRef) (devices : DevicesValue) (old : PacketValue) (target : ℕ)
    (asked : List Asked) (new : PacketValue) (status : Status) : Type 0 where
  pub frames : List Frame
  pub reached : PacketValue
  pub unwinding : List Asking
  pub right : AreFrames tables irp devices old target frames
  pub passed : PassedDown old frames reached
  pub ended : Ends irp (last_frame frames) reached unwinding new (last_frame frames).plan
  pub listed : asked ≡ questions_of tables irp old devices frames ++ map as_asked unwinding
  pub replied : status ≡ replied_status frames

-- a packet whose sender gets another status than PENDING stands no lower than before
abbrev pub StaysUp : PacketValue → PacketValue → Status → Type 0
StaysUp old new status = (status ≡ pending → ⊥) → old.current ≤ new.current
