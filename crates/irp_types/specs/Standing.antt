-- The standing facts, which each call of a manager keeps.
use Rattle.std.specs.Prelude.{ℕ, ◌≡◌, ◌+◌, ◌-◌, ◌<◌, ◌≤◌, Bool, true, false, if◌then◌else◌, is_some, Some, None}
use Rattle.irp_types.specs.Limits.{most_locations}
use Rattle.irp_types.specs.Rules.{is_known}
use Rattle.irp_types.specs.Packet.{PacketValue, size_of, location_at, is_nothing, is_skipped}
use Rattle.irp_types.specs.Stacks.{AreStacks}
use Rattle.irp_types.specs.State.{StateValue, LivePacket, live_at}
use Rattle.irp_types.specs.Refusals.{is_owned_by_device}
use Rattle.irp_types.specs.declared.names.CancelId.{CancelId}
use Rattle.irp_types.specs.declared.location.Owner.TheVariants.{Originator}
use Rattle.irp_types.specs.declared.routine.Known.{Known}
use Rattle.irp_types.specs.declared.routine.Setting.{Setting}
use Rattle.irp_types.specs.declared.routine.Rule.{Rule}
use Rattle.irp_types.specs.declared.routine.Rule.TheVariants.{Watch, Change, Keeper, KeepOnError, Free}

-- a rule whose routines may keep a packet
abbrev pub is_keeping : Rule → Bool
is_keeping Watch = false
is_keeping Change = false
is_keeping Keeper = true
is_keeping KeepOnError = true
is_keeping Free = true

-- the owner's own location, which a skip has left below `current`
abbrev pub own_location : PacketValue → ℕ
own_location packet = if is_skipped packet.preparation then packet.current - 1 else packet.current

-- the current location, or the one below it that was prepared
abbrev pub lowest_location : PacketValue → ℕ
lowest_location packet = if is_nothing packet.preparation then packet.current else packet.current - 1

-- the cancel routine of a packet is there, and the packet is held by a device that did not skip
pub record IsCancellable (counts : Known) (packet : PacketValue) (routine : CancelId) : Type 0 where
  pub there : routine.0 < counts.cancel
  pub held : is_owned_by_device packet.owner ≡ true
  pub unskipped : is_skipped packet.preparation ≡ false

-- a packet in a cancel slot is held by a device, has no cancel routine, and nothing was prepared
pub record IsInSlot (packet : PacketValue) : Type 0 where
  pub held : is_owned_by_device packet.owner ≡ true
  pub no_routine : packet.cancel_routine ≡ None
  pub unprepared : is_nothing packet.preparation ≡ true

-- the standing facts of one packet
pub record IsSound (counts : Known) (packet : PacketValue) : Type 0 where
  -- it has 1 to 32 locations, stands in one of them or above the top, and has a lower one where something is prepared
  pub some : 1 ≤ size_of packet
  pub few : size_of packet ≤ most_locations
  pub placed : 1 ≤ packet.current
  pub within : packet.current ≤ size_of packet + 1
  pub prepared : is_nothing packet.preparation ≡ false → 2 ≤ packet.current
  -- a packet that a device owns is marked pending in the device's own location
  pub marked : is_owned_by_device packet.owner ≡ true → (location_at packet (own_location packet)).pending ≡ true
  -- each location from the current one up has a device, and what the originator owns stands above the top
  pub devices :
      (number : ℕ) → packet.current ≤ number → number ≤ size_of packet
      → is_some (location_at packet number).device ≡ true
  pub originator : packet.owner ≡ Originator → packet.current ≡ size_of packet + 1
  -- each routine that the packet names is there
  pub routines :
      (number : ℕ) (setting : Setting) → (location_at packet number).setting ≡ Some setting
      → is_known counts setting ≡ true
  pub cancel : (routine : CancelId) → packet.cancel_routine ≡ Some routine → IsCancellable counts packet routine
  pub slots : packet.slot_held ≡ true → IsInSlot packet
  -- above a routine that may keep the packet, the location is marked
  pub keepers :
      (number : ℕ) (setting : Setting)
      → lowest_location packet ≤ number
      → number < size_of packet
      → (location_at packet number).setting ≡ Some setting
      → is_keeping setting.routine.rule ≡ true
      → (location_at packet (number + 1)).pending ≡ true

-- the standing facts of a state, where these many routines are there
pub record StandingFacts (counts : Known) (state : StateValue) : Type 0 where
  pub packets : (slot : ℕ) (live : LivePacket) → live_at state slot ≡ Some live → IsSound counts live.packet
  -- live use numbers were drawn, from 1 up, and differ
  pub counter : 1 ≤ state.next_use
  pub positive : (slot : ℕ) (live : LivePacket) → live_at state slot ≡ Some live → 1 ≤ live.use_no
  pub drawn : (slot : ℕ) (live : LivePacket) → live_at state slot ≡ Some live → live.use_no < state.next_use
  pub apart :
      (slot other : ℕ) (live another : LivePacket) → live_at state slot ≡ Some live → live_at state other ≡ Some another
      → live.use_no ≡ another.use_no → slot ≡ other
  pub stacks : AreStacks state.devices
