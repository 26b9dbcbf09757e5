-- One location of an unwinding: who is asked there, and what is left when the packet rises from it.
use Rattle.std.specs.Prelude.{◌≡◌, ◌+◌, ◌-◌, ◌≤◌, Bool, true, false, if◌then◌else◌, unwrap_or, not, ◌&&◌, is_some, List}
use Rattle.std.specs.Prelude.{[], ◌∷◌, ◌++◌, slice_set, slice_index_or, take, drop, replicate, Option, Some, None, ◌⊎◌}
use Rattle.std.specs.Option.{option_map_or}
use Rattle.irp_types.specs.Rules.{is_allowed}
use Rattle.irp_types.specs.Packet.{PacketValue, location_at, cleared}
use Rattle.irp_types.specs.Unwinding.{Asking, as_asked, meets_flags, device_above}
use Rattle.irp_types.specs.declared.status.Status.{Status}
use Rattle.irp_types.specs.declared.names.IrpRef.{IrpRef}
use Rattle.irp_types.specs.declared.location.Location.{Location}
use Rattle.irp_types.specs.declared.location.Owner.{Owner}
use Rattle.irp_types.specs.declared.location.Preparation.TheVariants.{Nothing}
use Rattle.irp_types.specs.declared.routine.RoutineId.{RoutineId}
use Rattle.irp_types.specs.declared.routine.Setting.{Setting}
use Rattle.irp_types.specs.declared.shown.Shown.{Shown}
use Rattle.irp_types.specs.declared.answer.Answer.{Answer}
use Rattle.irp_types.specs.declared.answer.Replacement.{Replacement}
use Rattle.irp_types.specs.declared.asked.Asked.{Asked}

-- the status and information of a packet
abbrev pub outcome_of : PacketValue → Replacement
outcome_of packet = record { status = packet.status; information = packet.information }

-- whether there is a routine, and a status or the cancel flag meets its flags
abbrev pub is_met : Option Setting → Bool → Status → Bool
is_met setting cancel status = option_map_or (λ (given : Setting). meets_flags given cancel status) setting false

-- whether the routine of the current location is asked
abbrev pub is_met_now : PacketValue → Bool
is_met_now packet = is_met (location_at packet packet.current).setting packet.cancel packet.status

-- what the routine of the current location is shown
abbrev pub shown_now : IrpRef → PacketValue → Setting → Shown
shown_now irp packet setting = record {
  device = device_above packet packet.current;
  irp = irp;
  major = (location_at packet packet.current).major;
  location = packet.current;
  word = (location_at packet packet.current).word;
  status = packet.status;
  information = packet.information;
  pending_returned = (location_at packet packet.current).pending;
  cancel = packet.cancel;
  context = setting.context;
  has_lower = false;
}

-- the routine of the current location was asked
pub record IsAskedNow (irp : IrpRef) (packet : PacketValue) (asking : Asking) : Type 0 where
  pub setting : Setting
  pub here : (location_at packet packet.current).setting ≡ Some setting
  pub id : asking.id ≡ setting.routine
  pub shown : asking.shown ≡ shown_now irp packet setting
  pub allowed : is_allowed asking.id.rule asking.shown asking.answer ≡ true

-- the bit that the next higher location gets, if the packet is not kept: the current one's, where a device is above
abbrev pub mark_above : PacketValue → Bool
mark_above packet = (location_at packet packet.current).pending && is_some (device_above packet packet.current)

-- how it goes on where nobody is asked
abbrev pub unasked : PacketValue → Answer
unasked packet = record { keep = false; mark = mark_above packet; replacement = None }

-- the mark is the one that this answer must have, whether a routine gave it or none was asked
abbrev pub IsMark : PacketValue → Answer → Type 0
IsMark packet answer = answer.mark ≡ (not answer.keep && mark_above packet)

-- the routine of the current location was asked, answered as it may, and stands behind the others
pub record IsListed (may_answer : RoutineId → Shown → Answer → Type 0) (irp : IrpRef) (packet : PacketValue)
    (before after : List Asked) (answer : Answer) : Type 0 where
  pub asking : Asking
  pub met : is_met_now packet ≡ true
  pub asked : IsAskedNow irp packet asking
  pub given : may_answer asking.id asking.shown asking.answer
  pub listed : after ≡ before ++ as_asked asking ∷ []
  pub answered : answer ≡ asking.answer

-- nobody was asked at the current location
pub record IsUnasked (packet : PacketValue) (before after : List Asked) (answer : Answer) : Type 0 where
  pub unmet : is_met_now packet ≡ false
  pub listed : after ≡ before
  pub answered : answer ≡ unasked packet

-- the routine of the current location was asked exactly where its flags are met
abbrev pub IsConsulted :
    (RoutineId → Shown → Answer → Type 0) → IrpRef → PacketValue → List Asked → List Asked → Answer → Type 0
IsConsulted may_answer irp packet before after answer =
    IsUnasked packet before after answer ⊎ IsListed may_answer irp packet before after answer

-- a location that is marked pending
abbrev pub marked : Location → Location
marked location = record location { pending = true }

-- the locations once the current one is left: it is cleared, and the next higher one is marked if there is a mark
abbrev pub left_locations : PacketValue → Bool → List Location
left_locations packet mark =
    let bare = slice_set packet.locations (packet.current - 1) cleared in
    if mark then slice_set bare packet.current (marked (slice_index_or bare packet.current cleared)) else bare

-- the packet once the current location is left after this answer
abbrev pub left_packet : PacketValue → Answer → PacketValue
left_packet packet answer = record packet {
  locations = left_locations packet answer.mark;
  current = packet.current + 1;
  status = (unwrap_or answer.replacement (outcome_of packet)).status;
  information = (unwrap_or answer.replacement (outcome_of packet)).information;
  pending_returned = (location_at packet packet.current).pending;
  preparation = Nothing;
}

-- all locations below the current one are cleared
pub record IsBare (packet : PacketValue) : Type 0 where
  pub placed : 1 ≤ packet.current
  pub below : take (packet.current - 1) packet.locations ≡ replicate (packet.current - 1) cleared

-- the packet with the locations below the current one cleared
abbrev pub bared : PacketValue → PacketValue
bared packet =
    record packet { locations = replicate (packet.current - 1) cleared ++ drop (packet.current - 1) packet.locations }

-- what is left of a packet whose unwinding ends at the current location, with this outcome and owner
abbrev pub ended_packet : PacketValue → Replacement → Owner → PacketValue
ended_packet packet outcome owner = record packet {
  locations = slice_set packet.locations (packet.current - 1) cleared;
  current = packet.current + 1;
  status = outcome.status;
  information = outcome.information;
  pending_returned = (location_at packet packet.current).pending;
  owner = owner;
  preparation = Nothing;
}
