-- What a packet needs to be sent down or unwound.
use Rattle.std.specs.Prelude.{ℕ, ◌≡◌, ◌≤◌, true, is_some, Some}
use Rattle.irp_types.specs.Rules.{is_known}
use Rattle.irp_types.specs.Packet.{PacketValue, size_of, location_at}
use Rattle.irp_types.specs.declared.routine.Setting.{Setting}
use Rattle.irp_types.specs.declared.routine.Known.{Known}

-- each location from this one up has a device
pub record HasDevices (packet : PacketValue) (lowest : ℕ) : Type 0 where
  pub there :
      (number : ℕ) → lowest ≤ number → number ≤ size_of packet → is_some (location_at packet number).device ≡ true

-- each routine that is named from this location up is there
pub record HasRoutines (counts : Known) (packet : PacketValue) (lowest : ℕ) : Type 0 where
  pub there :
      (number : ℕ) (setting : Setting)
      → lowest ≤ number
      → number ≤ size_of packet
      → (location_at packet number).setting ≡ Some setting
      → is_known counts setting ≡ true
