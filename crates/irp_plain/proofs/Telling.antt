-- The derived test of equality of locations: it is true exactly where its two values are equal.
use Rattle.std.proofs.Common.{◌≡◌}
use Rattle.std.specs.Bool.{Decides}
use Rattle.std.specs.Cmp.{booleans_Decides, unsigned_Decides}
use Rattle.irp_types.specs.declared.location.Location.{Location}
use Rattle.irp_types.specs.contracts.location.Location as a_location
use Rattle.irp_types.specs.contracts.location.LocationPartialEq.TheImpl as location_eq
use Rattle.irp_types.proofs.Deciding.{last, also, fields, option, device, setting}

-- word, setting, device, major function code and pending bit decide it
pub location : (one other : Location) → Decides (location_eq.eq-value.it one other) (one ≡ other)
location =
    fields a_location.struct a_location.the_propositions
    (also unsigned_Decides (also (option setting) (also (option device) (also unsigned_Decides (last booleans_Decides)))))
