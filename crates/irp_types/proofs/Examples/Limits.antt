-- The limits that the code has are those of the definitions.
use Rattle.std.proofs.Common.{◌≡◌, refl}
use Rattle.irp_types.specs.Limits.{most_routines, most_dispatches, most_drivers, most_locks, most_seats, most_slots, last_major}
use Rattle.irp_types.specs.declared.limits.TheConstants.{MOST_ROUTINES, MOST_DISPATCHES, MOST_DRIVERS, MOST_LOCKS, MOST_SEATS, MOST_SLOTS, LAST_MAJOR}

the_code_has_the_limits_of_the_definitions :
    (MOST_ROUTINES ≡ most_routines) × (MOST_DISPATCHES ≡ most_dispatches) × (MOST_DRIVERS ≡ most_drivers) × (MOST_LOCKS ≡ most_locks)
    × (MOST_SEATS ≡ most_seats) × (MOST_SLOTS ≡ most_slots) × (LAST_MAJOR ≡ last_major)
the_code_has_the_limits_of_the_definitions = (refl, refl, refl, refl, refl, refl, refl)
