-- Device stacks. A stack is a list of device numbers, bottom first; beside each device stands the whole stack that
-- it is in.
use Rattle.std.specs.Prelude.{ℕ, ◌≡◌, ◌+◌, ◌-◌, ◌<◌, ◌≤◌, ◌==◌, Bool, true, false, not, if◌then◌else◌, nat_lt, nat_le}
use Rattle.std.specs.Prelude.{is_some, List, [], ◌∷◌, ◌++◌, length, take, drop, fold, position, slice_get, slice_set}
use Rattle.std.specs.Prelude.{slice_index_or, Option, None, unwrap_or}
use Rattle.std.specs.List.{list_any}
use Rattle.irp_types.specs.declared.limit.Limit.{Limit}
use Rattle.irp_types.specs.Limits.{most_locations, most_under, most_devices}
use Rattle.irp_types.specs.Checks.{Check}
use Rattle.irp_types.specs.declared.names.LockNo.{LockNo}
use Rattle.irp_types.specs.declared.names.DriverId.{DriverId}
use Rattle.irp_types.specs.declared.refusal.Refusal.TheVariants.{NoDevice, DeviceGone, StillAttached, SameStack}
use Rattle.irp_types.specs.declared.refusal.Refusal.TheVariants.{TooDeep, Full, NothingAttached}

-- what is kept of a device that was created
pub record DeviceFacts : Type 0 where
  pub driver : DriverId
  pub lock : LockNo
  pub live : Bool

-- the devices that were created, by number, and the stack of each
pub record DevicesValue : Type 0 where
  pub facts : List DeviceFacts
  pub stacks : List (List ℕ)

-- what there is before the first device was created
abbrev pub no_devices : DevicesValue
no_devices = record { facts = []; stacks = [] }

-- the whole stack of a device
abbrev pub stack_of : DevicesValue → ℕ → List ℕ
stack_of devices device = slice_index_or devices.stacks device []

-- how many stand below a device
abbrev pub depth_of : DevicesValue → ℕ → ℕ
depth_of devices device = unwrap_or (position (λ member. member == device) (stack_of devices device)) 0

-- the device's position in its stack, from 1 at the bottom; 1 for a device that was never created
abbrev pub stack_size_of : DevicesValue → ℕ → ℕ
stack_size_of devices device = depth_of devices device + 1

-- the device just below
abbrev pub lower_of : DevicesValue → ℕ → Option ℕ
lower_of devices device =
    if depth_of devices device == 0 then None else slice_get (stack_of devices device) (depth_of devices device - 1)

-- the device just above
abbrev pub upper_of : DevicesValue → ℕ → Option ℕ
upper_of devices device = slice_get (stack_of devices device) (depth_of devices device + 1)

-- the device that a cut above this one cuts off; device 0 where none stands above, which a check refuses
abbrev pub cut_off_by : DevicesValue → ℕ → ℕ
cut_off_by devices lower = unwrap_or (upper_of devices lower) 0

-- the highest device of a device's stack
abbrev pub top_of : DevicesValue → ℕ → ℕ
top_of devices device = slice_index_or (stack_of devices device) (length (stack_of devices device) - 1) device

-- created, whether or not it was deleted since
abbrev pub is_created : DevicesValue → ℕ → Bool
is_created devices device = nat_lt device (length devices.facts)

-- what stands for the facts of a device that was never created: it isn't live
abbrev pub no_facts : DeviceFacts
no_facts = record { driver = record { 0 = 0 }; lock = record { 0 = 0 }; live = false }

-- a device's driver and lock, and whether it is live
abbrev pub facts_of : DevicesValue → ℕ → DeviceFacts
facts_of devices device = slice_index_or devices.facts device no_facts

-- created, and not deleted
abbrev pub is_live : DevicesValue → ℕ → Bool
is_live devices device = (facts_of devices device).live

-- whether a device has another above or below it
abbrev pub has_neighbour : DevicesValue → ℕ → Bool
has_neighbour devices device = nat_lt 1 (length (stack_of devices device))

-- the checks of a device that a call names
abbrev pub device_checks : DevicesValue → ℕ → List Check
device_checks devices device =
    (not (is_created devices device), NoDevice) ∷ (not (is_live devices device), DeviceGone) ∷ []

-- the checks of a creation
abbrev pub create_checks : DevicesValue → List Check
create_checks devices = (nat_le most_devices (length devices.facts), Full) ∷ []

-- the checks of an attachment of a device to the stack of another
abbrev pub attach_checks : Limit → DevicesValue → ℕ → ℕ → List Check
attach_checks limit devices device to =
    device_checks devices device ++ device_checks devices to
    ++ (list_any (λ member. member == to) (stack_of devices device), SameStack)
    ∷ (has_neighbour devices device, StillAttached)
    ∷ (nat_le (most_under limit) (length (stack_of devices to)), TooDeep) ∷ []

-- the checks of a detachment of what stands on a device
abbrev pub detach_checks : DevicesValue → ℕ → List Check
detach_checks devices lower =
    device_checks devices lower ++ (not (is_some (upper_of devices lower)), NothingAttached) ∷ []

-- the checks of a deletion that look at the stack alone
abbrev pub delete_checks : DevicesValue → ℕ → List Check
delete_checks devices device = device_checks devices device ++ (has_neighbour devices device, StillAttached) ∷ []

-- each member of a stack now stands in it
abbrev pub regrouped : List (List ℕ) → List ℕ → List (List ℕ)
regrouped stacks stack = fold (λ others member. slice_set others member stack) stacks stack

-- the next device is there, alone in its stack
abbrev pub after_create : DevicesValue → DriverId → LockNo → DevicesValue
after_create devices driver lock = record {
  facts = devices.facts ++ (record { driver = driver; lock = lock; live = true }) ∷ [];
  stacks = devices.stacks ++ (length devices.facts ∷ []) ∷ [];
}

-- a device that stands alone is put on top of another's stack
abbrev pub after_attach : DevicesValue → ℕ → ℕ → DevicesValue
after_attach devices device to =
    record devices { stacks = regrouped devices.stacks (stack_of devices to ++ device ∷ []) }

-- the stack is cut above `lower`, and the upper part is a stack of its own
abbrev pub after_detach : DevicesValue → ℕ → DevicesValue
after_detach devices lower =
    let stack = stack_of devices lower in
    let size = stack_size_of devices lower in
    record devices { stacks = regrouped (regrouped devices.stacks (take size stack)) (drop size stack) }

-- a device is gone
abbrev pub after_delete : DevicesValue → ℕ → DevicesValue
after_delete devices device =
    record devices { facts = slice_set devices.facts device (record (facts_of devices device) { live = false }) }

-- a device stands in its own stack, at its depth
pub record StandsInStack (devices : DevicesValue) (device : ℕ) : Type 0 where
  pub within : depth_of devices device < length (stack_of devices device)
  pub there : slice_index_or (stack_of devices device) (depth_of devices device) device ≡ device

-- who stands at a place of a device's stack was created, and has that stack and that depth
pub record IsMember (devices : DevicesValue) (device place : ℕ) : Type 0 where
  pub created : slice_index_or (stack_of devices device) place device < length devices.facts
  pub stack : stack_of devices (slice_index_or (stack_of devices device) place device) ≡ stack_of devices device
  pub depth : depth_of devices (slice_index_or (stack_of devices device) place device) ≡ place

-- each device that was created is at one place of one stack, no stack is too deep, and the members of a stack
-- of two or more are live
pub record AreStacks (devices : DevicesValue) : Type 0 where
  pub counted : length devices.stacks ≡ length devices.facts
  pub stands : (device : ℕ) → device < length devices.facts → StandsInStack devices device
  pub members :
      (device place : ℕ) → device < length devices.facts → place < length (stack_of devices device)
      → IsMember devices device place
  pub few : (device : ℕ) → device < length devices.facts → length (stack_of devices device) ≤ most_locations
  pub live :
      (device : ℕ) → device < length devices.facts → has_neighbour devices device ≡ true → is_live devices device ≡ true
