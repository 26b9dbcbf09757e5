-- One device of a descent: what it is shown, what it leaves when it passes the packet on, and when it doesn't.
use Rattle.std.specs.Prelude.{ℕ, ◌≡◌, ◌++◌, false, is_some, List, Option, Some, None, map}
use Rattle.std.specs.List.{AllByRecursion}
use Rattle.irp_types.specs.Status.{invalid_device_request}
use Rattle.irp_types.specs.Packet.{PacketValue, location_at, with_status, after_mark, after_copy, after_rise}
use Rattle.irp_types.specs.Unwinding.{Asking, as_asked}
use Rattle.irp_types.specs.Stacks.{DevicesValue, lower_of}
use Rattle.irp_types.specs.State.{Tables}
use Rattle.irp_types.specs.Descent.{Frame, IsPlannedAs, question_at, Ends}
use Rattle.irp_types.specs.declared.names.IrpRef.{IrpRef}
use Rattle.irp_types.specs.declared.routine.RoutineId.{RoutineId}
use Rattle.irp_types.specs.declared.shown.Shown.{Shown}
use Rattle.irp_types.specs.declared.answer.Answer.{Answer}
use Rattle.irp_types.specs.declared.answer.Plan.{Plan}
use Rattle.irp_types.specs.declared.answer.Plan.TheVariants.{Finish, Hold, HoldSlot, Skip, Forward, ForwardPend}
use Rattle.irp_types.specs.declared.asked.Asked.{Asked}
use Rattle.irp_unwind.specs.declared.ending.Ending.{Ending}
use Rattle.irp_unwind.specs.declared.ending.Ending.TheVariants.{Held, Ended}
use Rattle.irp_unwind.specs.Endings.{ending_of, IsGiven}

-- the packet with its current location marked
abbrev pub marked_here : PacketValue → PacketValue
marked_here packet = after_mark packet packet.current

-- what a device that passes the packet on leaves for the next lower one
abbrev pub passed_on : PacketValue → Option Plan → PacketValue
passed_on packet None = packet
passed_on packet (Some (Finish status information)) = packet
passed_on packet (Some (Hold cancel)) = packet
passed_on packet (Some HoldSlot) = packet
passed_on packet (Some Skip) = after_rise packet
passed_on packet (Some (Forward set)) = after_copy packet set
passed_on packet (Some (ForwardPend set)) = after_copy (marked_here packet) set

-- the packet of a device that doesn't pass it on, before a status or an owner is written
abbrev pub stopped : PacketValue → Option Plan → PacketValue
stopped packet None = packet
stopped packet (Some (Finish status information)) = packet
stopped packet (Some (Hold cancel)) = marked_here packet
stopped packet (Some HoldSlot) = marked_here packet
stopped packet (Some Skip) = packet
stopped packet (Some (Forward set)) = packet
stopped packet (Some (ForwardPend set)) = packet

-- the frame of a device in the current location
abbrev pub frame_at : PacketValue → ℕ → Option Plan → Frame
frame_at packet device plan = record { device = device; location = packet.current; plan = plan }

-- what the dispatch of a device is shown in the current location
abbrev pub shown_here : IrpRef → PacketValue → DevicesValue → ℕ → Shown
shown_here irp packet devices device = record {
  device = Some (record { 0 = device });
  irp = irp;
  major = (location_at packet packet.current).major;
  location = packet.current;
  word = (location_at packet packet.current).word;
  status = packet.status;
  information = packet.information;
  pending_returned = false;
  cancel = packet.cancel;
  context = 0;
  has_lower = is_some (lower_of devices device);
}

-- the dispatch of a device, if its driver has one, was asked and put behind the others
pub record IsPlannedHere (may : Asked → Type 0) (tables : Tables) (irp : IrpRef) (devices : DevicesValue)
    (packet : PacketValue) (frame : Frame) (before after : List Asked) : Type 0 where
  pub planned : IsPlannedAs tables devices frame (shown_here irp packet devices frame.device)
  pub listed : after ≡ before ++ question_at tables devices frame (shown_here irp packet devices frame.device)
  pub given : AllByRecursion may (question_at tables devices frame (shown_here irp packet devices frame.device))

-- how it ends with this frame
abbrev pub ending_at : Frame → PacketValue → List Asking → Option Plan → Ending
ending_at last reached asked None = ending_of (with_status reached invalid_device_request 0) asked
ending_at last reached asked (Some (Finish status information)) =
    ending_of (with_status reached status information) asked
ending_at last reached asked (Some (Hold cancel)) = Held (record { 0 = last.device })
ending_at last reached asked (Some HoldSlot) = Held (record { 0 = last.device })
ending_at last reached asked (Some Skip) = Ended
ending_at last reached asked (Some (Forward set)) = Ended
ending_at last reached asked (Some (ForwardPend set)) = Ended

-- the device of the current location holds the packet, or it is finished and unwound
pub record EndsHere (may_answer : RoutineId → Shown → Answer → Type 0) (irp : IrpRef) (packet : PacketValue)
    (device : ℕ) (plan : Option Plan) (new : PacketValue) (before after : List Asked) (ending : Ending) : Type 0 where
  pub asked : List Asking
  pub ends : Ends irp (frame_at packet device plan) (stopped packet plan) asked new plan
  pub listed : after ≡ before ++ map as_asked asked
  pub given : AllByRecursion (IsGiven may_answer) asked
  pub ended : ending ≡ ending_at (frame_at packet device plan) (stopped packet plan) asked plan
