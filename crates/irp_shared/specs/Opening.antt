-- What opening a session gives.
use Rattle.std.specs.Prelude.{ℕ, ◌≡◌, ◌<◌, ◌≤◌, List, [], length, Some, slice_get, ◌⊎◌}
use Rattle.irp_types.specs.Limits.{most_locks, most_seats}
use Rattle.irp_manager.specs.Seats.{Seated}

-- there are none or too many of either
abbrev pub IsBadCount : ℕ → ℕ → Type 0
IsBadCount locks seats = ((locks ≡ 0) ⊎ (most_locks < locks)) ⊎ ((seats ≡ 0) ⊎ (most_seats < seats))

-- there are 1 to 64 of each
abbrev pub IsGoodCount : ℕ → ℕ → Type 0
IsGoodCount locks seats = (1 ≤ locks) × (locks ≤ most_locks) × (1 ≤ seats) × (seats ≤ most_seats)

-- a seat of this number that has seen nothing and has no entries
pub record IsNew (number : ℕ) (seat : Seated) : Type 0 where
  pub numbered : seat.number ≡ number
  pub unseen : seat.seen ≡ 0
  pub empty : seat.entries ≡ []

-- so many seats, numbered by their places, each new
pub record AreNew (count : ℕ) (seats : List Seated) : Type 0 where
  pub counted : length seats ≡ count
  pub each : (number : ℕ) (seat : Seated) → slice_get seats number ≡ Some seat → IsNew number seat
