-- A packet as a value, its own checks, and what its own calls make of it.
use Rattle.std.specs.Prelude.{ℕ, ◌-◌, ◌+◌, Bool, true, false, not, ◌&&◌, if◌then◌else◌, nat_lt, nat_le, List, [], ◌∷◌}
use Rattle.std.specs.Prelude.{length, Option, Some, None, replicate, slice_get, slice_set, slice_index_or}
use Rattle.irp_types.specs.Limits.{last_major}
use Rattle.irp_types.specs.Status.{success}
use Rattle.irp_types.specs.Checks.{Check, first_failing}
use Rattle.irp_types.specs.declared.status.Status.{Status}
use Rattle.irp_types.specs.declared.names.CancelId.{CancelId}
use Rattle.irp_types.specs.declared.names.DeviceId.{DeviceId}
use Rattle.irp_types.specs.declared.location.Location.{Location}
use Rattle.irp_types.specs.declared.location.Owner.{Owner}
use Rattle.irp_types.specs.declared.location.Owner.TheVariants.{Originator}
use Rattle.irp_types.specs.declared.location.Preparation.{Preparation}
use Rattle.irp_types.specs.declared.location.Preparation.TheVariants.{Nothing, Filled, Skipped}
use Rattle.irp_types.specs.declared.routine.Setting.{Setting}
use Rattle.irp_types.specs.declared.refusal.Refusal.{Refusal}
use Rattle.irp_types.specs.declared.refusal.Refusal.TheVariants.{NoLocation, NotPrepared, AfterSkip, TooShort, BadMajor}

-- Location number j stands at place j - 1 of the list. The use number stands beside the packet.
pub record PacketValue : Type 0 where
  pub locations : List Location
  pub current : ℕ
  pub status : Status
  pub information : ℕ
  pub pending_returned : Bool
  pub cancel : Bool
  pub cancel_routine : Option CancelId
  pub owner : Owner
  pub preparation : Preparation
  -- whether it stands in a cancel slot: FinishTaken alone completes it then
  pub slot_held : Bool

-- how many locations a packet has
abbrev pub size_of : PacketValue → ℕ
size_of packet = length packet.locations

-- a location with this major function code and word, and nothing else
abbrev pub location_with : ℕ → ℕ → Location
location_with major word = record { device = None; major = major; word = word; setting = None; pending = false }

-- a location with no device, no routine and zeros
abbrev pub cleared : Location
cleared = location_with 0 0

-- the content of a location by its number, from 1; that of a cleared one above the top
-- (0 is no number; it reads location 1)
abbrev pub location_at : PacketValue → ℕ → Location
location_at packet number = slice_index_or packet.locations (number - 1) cleared

-- the location of a number, where there is one
abbrev pub found_location : PacketValue → ℕ → Option Location
found_location packet number = if nat_lt 0 number then slice_get packet.locations (number - 1) else None

-- the packet with another content of one location
abbrev pub with_location : PacketValue → ℕ → Location → PacketValue
with_location packet number location = record packet { locations = slice_set packet.locations (number - 1) location }

-- the packet with another status and information
abbrev pub with_status : PacketValue → Status → ℕ → PacketValue
with_status packet status information = record packet { status = status; information = information }

-- a packet as it is allocated: the originator owns it, and it stands above its highest location
abbrev pub new_packet : ℕ → PacketValue
new_packet size = record {
  locations = replicate size cleared;
  current = size + 1;
  status = success;
  information = 0;
  pending_returned = false;
  cancel = false;
  cancel_routine = None;
  owner = Originator;
  preparation = Nothing;
  slot_held = false;
}

-- nothing was prepared for the next send
abbrev pub is_nothing : Preparation → Bool
is_nothing Nothing = true
is_nothing Filled = false
is_nothing Skipped = false

-- the next lower location was filled
abbrev pub is_filled : Preparation → Bool
is_filled Nothing = false
is_filled Filled = true
is_filled Skipped = false

-- the owner gives its own location to the next lower device
abbrev pub is_skipped : Preparation → Bool
is_skipped Nothing = false
is_skipped Filled = false
is_skipped Skipped = true

-- whether the packet stands above its highest location
abbrev pub is_above_top : PacketValue → Bool
is_above_top packet = nat_lt (size_of packet) packet.current

-- the owner has no location of its own
abbrev pub location_check : PacketValue → Check
location_check packet = (is_above_top packet && not (is_skipped packet.preparation), NoLocation)

-- the owner gave its location to the next lower device
abbrev pub skip_check : PacketValue → Check
skip_check packet = (is_skipped packet.preparation, AfterSkip)

-- there is no lower location
abbrev pub lower_check : PacketValue → Check
lower_check packet = (nat_le packet.current 1, TooShort)

-- the next lower location was not prepared
abbrev pub preparation_check : PacketValue → Check
preparation_check packet = (is_nothing packet.preparation, NotPrepared)

-- the number is no major function code
abbrev pub major_check : ℕ → Check
major_check major = (nat_lt last_major major, BadMajor)

-- why the next location can't be filled with a major and a word, or none
abbrev pub set_next_refusal : PacketValue → ℕ → Option Refusal
set_next_refusal packet major = first_failing (skip_check packet ∷ lower_check packet ∷ major_check major ∷ [])

-- why the next location can't become the copy of the current one, or none
abbrev pub copy_to_next_refusal : PacketValue → Option Refusal
copy_to_next_refusal packet = first_failing (location_check packet ∷ skip_check packet ∷ lower_check packet ∷ [])

-- the packet's own checks of a skip; the manager looks at the cancel routine too
abbrev pub skip_refusal : PacketValue → Option Refusal
skip_refusal packet = first_failing (location_check packet ∷ skip_check packet ∷ [])

-- the packet's own checks of a setting; the manager looks at the routine's number too
abbrev pub set_routine_refusal : PacketValue → Option Refusal
set_routine_refusal packet = first_failing (skip_check packet ∷ preparation_check packet ∷ [])

-- why the current location can't be marked, or none
abbrev pub mark_pending_refusal : PacketValue → Option Refusal
mark_pending_refusal packet = first_failing (location_check packet ∷ skip_check packet ∷ [])

-- the next lower location has this content and nothing else
abbrev pub after_set_next : PacketValue → ℕ → ℕ → PacketValue
after_set_next packet major word =
    record (with_location packet (packet.current - 1) (location_with major word)) { preparation = Filled }

-- the next lower location has the major and word of the current one, this setting, and nothing else
abbrev pub after_copy : PacketValue → Option Setting → PacketValue
after_copy packet setting =
    let here = location_at packet packet.current in
    record (with_location packet (packet.current - 1)
    (record (location_with here.major here.word) { setting = setting })) { preparation = Filled }

-- the next lower device is to use the owner's location, and a filled next location is cleared
abbrev pub after_skip : PacketValue → PacketValue
after_skip packet =
    let bare = if is_filled packet.preparation then with_location packet (packet.current - 1) cleared else packet in
    record bare { current = packet.current + 1; preparation = Skipped }

-- the next lower location has this setting in place of what was set
abbrev pub after_set_routine : PacketValue → Setting → PacketValue
after_set_routine packet setting =
    with_location packet (packet.current - 1)
    (record (location_at packet (packet.current - 1)) { setting = Some setting })

-- one location is marked pending
abbrev pub after_mark : PacketValue → ℕ → PacketValue
after_mark packet number = with_location packet number (record (location_at packet number) { pending = true })

-- the next lower location becomes the current one, and this device's
abbrev pub after_enter : PacketValue → DeviceId → PacketValue
after_enter packet device =
    let next = packet.current - 1 in
    record (with_location packet next (record (location_at packet next) { device = Some device })) {
      current = next;
      preparation = Nothing;
    }

-- the next higher location becomes the current one
abbrev pub after_rise : PacketValue → PacketValue
after_rise packet = record packet { current = packet.current + 1; preparation = Nothing }

-- the packet taken from its cancel slot
abbrev pub after_take : PacketValue → PacketValue
after_take packet = record packet { slot_held = false }

-- the packet as newly allocated, with this status
abbrev pub after_reset : PacketValue → Status → PacketValue
after_reset packet status = with_status (new_packet (size_of packet)) status 0
