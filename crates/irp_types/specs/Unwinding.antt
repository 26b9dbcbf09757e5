-- Unwinding: which completion routines are asked, in which order, shown what, and what is left of the packet.
-- Each definition is about the packet as it stands when unwinding begins, and about the list of the completion
-- routines that were asked, the first one first.
use Rattle.std.specs.Prelude.{ℕ, ◌≡◌, ◌+◌, ◌-◌, Bool, true, false, not, ◌&&◌, ◌||◌, if◌then◌else◌, nat_lt, is_some}
use Rattle.std.specs.Prelude.{List, [], ◌∷◌, ◌++◌, map, filter, find, drop, replicate, Option, Some, None}
use Rattle.std.specs.List.{list_any, filter_map, range_with_len, AllByRecursion}
use Rattle.std.specs.Option.{option_map_or}
use Rattle.irp_types.specs.Status.{is_success}
use Rattle.irp_types.specs.Rules.{is_allowed}
use Rattle.irp_types.specs.Packet.{PacketValue, size_of, location_at, cleared}
use Rattle.irp_types.specs.declared.status.Status.{Status}
use Rattle.irp_types.specs.declared.names.IrpRef.{IrpRef}
use Rattle.irp_types.specs.declared.names.DeviceId.{DeviceId}
use Rattle.irp_types.specs.declared.location.Owner.{Owner}
use Rattle.irp_types.specs.declared.location.Owner.TheVariants.{Originator, Device, Ended}
use Rattle.irp_types.specs.declared.location.Preparation.TheVariants.{Nothing}
use Rattle.irp_types.specs.declared.routine.RoutineId.{RoutineId}
use Rattle.irp_types.specs.declared.routine.Setting.{Setting}
use Rattle.irp_types.specs.declared.shown.Shown.{Shown}
use Rattle.irp_types.specs.declared.answer.Answer.{Answer}
use Rattle.irp_types.specs.declared.answer.Replacement.{Replacement}
use Rattle.irp_types.specs.declared.asked.Asked.{Asked}
use Rattle.irp_types.specs.declared.asked.Asked.TheVariants.{Completion}

-- a completion routine that was asked: which one, what it was shown, its location among it, and its answer
pub record Asking : Type 0 where
  pub id : RoutineId
  pub shown : Shown
  pub answer : Answer

-- as it stands in the list of an entry
abbrev pub as_asked : Asking → Asked
as_asked asking = Completion asking.id asking.shown asking.answer

-- the location whose routine was asked
abbrev pub place_of : Asking → ℕ
place_of asking = asking.shown.location

-- the last of these, or `start` where there is none
abbrev pub last_from : Replacement → List Replacement → Replacement
last_from start [] = start
last_from start (first ∷ others) = last_from first others

-- the replacement that was answered, if that was below this location
abbrev pub replaced_below : ℕ → Asking → Option Replacement
replaced_below number asking = if nat_lt (place_of asking) number then asking.answer.replacement else None

-- the status and information in force at a location: the last replacement below it, or the packet's own
abbrev pub outcome_at : PacketValue → List Asking → ℕ → Replacement
outcome_at packet asked number =
    last_from (record { status = packet.status; information = packet.information })
    (filter_map (replaced_below number) asked)

-- whether a status, or the cancel flag, meets the flags of a setting
abbrev pub meets_flags : Setting → Bool → Status → Bool
meets_flags setting cancel status =
    (is_success status && setting.on_success)
    || ((not (is_success status) && setting.on_error) || (cancel && setting.on_cancel))

-- whether a location has a routine whose flags are met there
abbrev pub is_met_at : PacketValue → List Asking → ℕ → Bool
is_met_at packet asked number =
    option_map_or (λ (setting : Setting). meets_flags setting packet.cancel (outcome_at packet asked number).status)
    (location_at packet number).setting false

-- the numbers from the first to the last
abbrev pub from_to : ℕ → ℕ → List ℕ
from_to first last = range_with_len first ((last + 1) - first)

-- PendingReturned at a location: whether one from the current up to it was marked
abbrev pub pending_returned_at : PacketValue → ℕ → Bool
pending_returned_at packet number =
    list_any (λ lower. (location_at packet lower).pending) (from_to packet.current number)

-- the first routine that kept the packet
abbrev pub keeper_of : List Asking → Option Asking
keeper_of asked = find (λ asking. asking.answer.keep) asked

-- the location where unwinding stops: the keeper's, or the highest
abbrev pub stop_of : PacketValue → List Asking → ℕ
stop_of packet asked = option_map_or place_of (keeper_of asked) (size_of packet)

-- the device that set a location's routine: that of the next higher location, none at the top
abbrev pub device_above : PacketValue → ℕ → Option DeviceId
device_above packet number = (location_at packet (number + 1)).device

-- what the routine of a location is shown
abbrev pub shown_at : IrpRef → PacketValue → List Asking → ℕ → Setting → Shown
shown_at irp packet asked number setting = record {
  device = device_above packet number;
  irp = irp;
  major = (location_at packet number).major;
  location = number;
  word = (location_at packet number).word;
  status = (outcome_at packet asked number).status;
  information = (outcome_at packet asked number).information;
  pending_returned = pending_returned_at packet number;
  cancel = packet.cancel;
  context = setting.context;
  has_lower = false;
}

-- a routine is the one of its location, was shown what it should be, and answered as its rule allows
abbrev pub IsAskedRight : IrpRef → PacketValue → List Asking → Asking → Type 0
IsAskedRight irp packet asked asking =
    (setting : Setting)
    × ((location_at packet (place_of asking)).setting ≡ Some setting)
    × (asking.id ≡ setting.routine)
    × (asking.shown ≡ shown_at irp packet asked (place_of asking) setting)
    × (is_allowed asking.id.rule asking.shown asking.answer ≡ true)

-- the routines asked are exactly those whose flags are met, from the current location up to the stop, in this order
pub record AreAsked (irp : IrpRef) (packet : PacketValue) (asked : List Asking) : Type 0 where
  pub places : map place_of asked ≡ filter (is_met_at packet asked) (from_to packet.current (stop_of packet asked))
  pub right : AllByRecursion (IsAskedRight irp packet asked) asked

-- the owner of a packet that was kept: this device, or the originator where no device stands above
abbrev pub owner_from : Option DeviceId → Owner
owner_from None = Originator
owner_from (Some device) = Device device

-- the owner once unwinding has stopped
abbrev pub owner_after : PacketValue → List Asking → Owner
owner_after packet asked =
    if is_some (keeper_of asked) then owner_from (device_above packet (stop_of packet asked)) else Ended

-- the packet that unwinding leaves
abbrev pub unwound_packet : PacketValue → List Asking → PacketValue
unwound_packet packet asked =
    let stop = stop_of packet asked in
    record packet {
      locations = replicate stop cleared ++ drop stop packet.locations;
      current = stop + 1;
      status = (outcome_at packet asked (stop + 1)).status;
      information = (outcome_at packet asked (stop + 1)).information;
      pending_returned = pending_returned_at packet stop;
      owner = owner_after packet asked;
      preparation = Nothing;
    }

-- unwinding led from the old packet to the new one, and asked these
pub record Unwound (irp : IrpRef) (old : PacketValue) (asked : List Asking) (new : PacketValue) : Type 0 where
  pub asked_right : AreAsked irp old asked
  pub left : new ≡ unwound_packet old asked
