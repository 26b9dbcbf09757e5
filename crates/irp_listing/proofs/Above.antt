-- Counting the devices that stand above one.
use Rattle.std.proofs.Common.{◌≡◌, ◌+◌, ℕ, zero, suc, Option, None, Some, refl, ap}
use Rattle.std.specs.Option.{option_map_or}
use Rattle.irp_types.specs.declared.names.DeviceId.{DeviceId}
use Rattle.irp_listing.specs.Stacks.{count_above}

-- none where as many as may be are counted
pub all_counted : (above : DeviceId → Option DeviceId) (device : DeviceId) → count_above above 0 device ≡ 0
unfolding count_above
all_counted above device = refl

-- none above a device that none stands on
pub none_above : (above : DeviceId → Option DeviceId) (most : ℕ) (device : DeviceId) → above device ≡ None → count_above above most device ≡ 0
unfolding count_above
none_above above zero device none = refl
none_above above (suc most) device none =
    ap (λ (next : Option DeviceId). option_map_or (λ (next : DeviceId). count_above above most next + 1) next 0) none

-- one more than above the next
pub one_above : (above : DeviceId → Option DeviceId) (most : ℕ) (device next : DeviceId) → above device ≡ Some next → count_above above (suc most) device ≡ count_above above most next + 1
unfolding count_above
one_above above most device next one =
    ap (λ (next : Option DeviceId). option_map_or (λ (next : DeviceId). count_above above most next + 1) next 0) one
