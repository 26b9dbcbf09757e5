-- One location is written, and the others stay.
use Rattle.std.proofs.Common.{◌≡◌, ℕ, ◌-◌, ◌≤◌, zero, suc, replicate, refl, arith}
use Rattle.std.specs.Prelude.{slice_index_or}
use Rattle.std.proofs.lemmas.List.{get_or-set_same, get_or-set_other}
use Rattle.irp_types.specs.Packet.{PacketValue, size_of, location_at, with_location, cleared}
use Rattle.irp_types.specs.declared.location.Location.{Location}

pub at_written : (packet : PacketValue) (number : ℕ) (location : Location) → 1 ≤ number → number ≤ size_of packet → location_at (with_location packet number location) number ≡ location
at_written packet number location some within = get_or-set_same packet.locations (number - 1) location cleared (omega arith)

pub at_other : (packet : PacketValue) (number other : ℕ) (location : Location) → (other - 1 ≡ number - 1 → ⊥) → location_at (with_location packet number location) other ≡ location_at packet other
at_other packet number other location apart = get_or-set_other packet.locations (number - 1) (other - 1) location cleared apart

-- each location of a packet whose locations are all cleared is a cleared one
pub at_cleared : (size place : ℕ) → slice_index_or (replicate size cleared) place cleared ≡ cleared
at_cleared zero place = refl
at_cleared (suc size) zero = refl
at_cleared (suc size) (suc place) = at_cleared size place
