-- The standing facts of a packet but those on its owner: what a packet keeps on its way, while nobody owns it.
use Rattle.std.proofs.Common.{ℕ, ◌≡◌, ◌+◌, ◌-◌, ◌<◌, ◌≤◌, Bool, true, false, cond, arith, Some}
use Rattle.irp_types.specs.Packet.{is_nothing}
use Rattle.irp_types.specs.Limits.{most_locations}
use Rattle.irp_types.specs.Rules.{is_known}
use Rattle.irp_types.specs.Packet.{PacketValue, size_of, location_at}
use Rattle.irp_types.specs.Standing.{is_keeping, lowest_location, IsSound}
use Rattle.irp_types.specs.declared.routine.Known.{Known}
use Rattle.irp_types.specs.declared.routine.Setting.{Setting}
use Rattle.irp_unwind.specs.Conditions.{HasDevices}

pub record IsFit (counts : Known) (packet : PacketValue) : Type 0 where
  -- it has 1 to 32 locations, and stands in one of them
  pub few : size_of packet ≤ most_locations
  pub placed : 1 ≤ packet.current
  pub within : packet.current ≤ size_of packet
  -- each location from the current one up has a device
  pub devices : HasDevices packet packet.current
  -- each routine that the packet names is there
  pub routines : (number : ℕ) (setting : Setting) → (location_at packet number).setting ≡ Some setting → is_known counts setting ≡ true
  -- above a routine that may keep the packet, the location is marked
  pub keepers :
      (number : ℕ) (setting : Setting)
      → packet.current ≤ number
      → number < size_of packet
      → (location_at packet number).setting ≡ Some setting
      → is_keeping setting.routine.rule ≡ true
      → (location_at packet (number + 1)).pending ≡ true

-- what is prepared stands below the current location
lowest_below : (nothing : Bool) (current : ℕ) → cond nothing current (current - 1) ≤ current
lowest_below true current = omega arith
lowest_below false current = omega arith

-- a packet with the standing facts has these, where it stands in a location
pub fit_of : (counts : Known) (packet : PacketValue) → IsSound counts packet → packet.current ≤ size_of packet → IsFit counts packet
fit_of counts packet sound within =
    let lowest : lowest_location packet ≤ packet.current = lowest_below (is_nothing packet.preparation) packet.current in
    record {
      few = sound.few;
      placed = sound.placed;
      within = within;
      devices = record { there = sound.devices };
      routines = sound.routines;
      keepers = λ number setting from. sound.keepers number setting (omega (arith, lowest, from));
    }
