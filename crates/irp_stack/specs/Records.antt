-- The records of the devices, and the stacks that they describe.
use Rattle.std.specs.Prelude.{ℕ, ◌≡◌, ◌+◌, ◌-◌, ◌<◌, ◌≤◌, ◌||◌, Bool, true, false, is_some, List, [], ◌∷◌, length, map}
use Rattle.std.specs.Prelude.{Some, None, slice_set, slice_index_or, zero, suc, Result, Ok, Err}
use Rattle.std.specs.Option.{option_map_or}
use Rattle.irp_types.specs.Limits.{most_locations}
use Rattle.irp_types.specs.Checks.{first_failing}
use Rattle.irp_types.specs.Stacks.{DevicesValue, DeviceFacts, device_checks}
use Rattle.irp_types.specs.declared.limit.Limit.{Limit}
use Rattle.irp_types.specs.declared.names.DeviceId.{DeviceId}
use Rattle.irp_types.specs.declared.names.DriverId.{DriverId}
use Rattle.irp_types.specs.declared.names.LockNo.{LockNo}
use Rattle.irp_types.specs.declared.refusal.Refusal.{Refusal}
use Rattle.irp_stack.specs.declared.device.Device.{Device}
use Rattle.irp_stack.specs.declared.stacks.Facts.{Facts}

-- a device by its number
abbrev pub id : ℕ → DeviceId
id number = record { 0 = number }

-- what stands where there is no record
abbrev pub blank : Device
blank = record {
  driver = record { 0 = 0 };
  lock = record { 0 = 0 };
  live = false;
  lower = None;
  upper = None;
  bottom = record { 0 = 0 };
  top = record { 0 = 0 };
  size = 0;
}

-- the record of a device
abbrev pub record_of : List Device → ℕ → Device
record_of records device = slice_index_or records device blank

-- the device at a place of a stack
abbrev pub member_at : List ℕ → ℕ → ℕ
member_at stack place = slice_index_or stack place 0

-- the stack of a device
abbrev pub list_of : List (List ℕ) → ℕ → List ℕ
list_of stacks device = slice_index_or stacks device []

-- whether a record names a device below or above
abbrev pub names_neighbour : Device → Bool
names_neighbour own = is_some own.lower || is_some own.upper

-- the device and those above it, at most so many
unfoldable pub walk : ℕ → List Device → ℕ → List ℕ
walk zero records device = []
walk (suc most) records device =
    device ∷ option_map_or (λ (upper : DeviceId). walk most records upper.0) (record_of records device).upper []

-- what the callers see of a record
abbrev pub facts_in : Device → DeviceFacts
facts_in own = record { driver = own.driver; lock = own.lock; live = own.live }

-- what is fixed of a device, and whether it is live, as a caller sees it
abbrev pub facts_shown : DeviceFacts → Facts
facts_shown facts = record { driver = facts.driver; lock = facts.lock; live = facts.live }

-- beside each device, the stack that the records describe
unfoldable pub lists_of : List Device → List (List ℕ)
lists_of records = map (λ (own : Device). walk most_locations records own.bottom.0) records

-- the devices that the records stand for
abbrev pub value_of : List Device → DevicesValue
value_of records = record { facts = map facts_in records; stacks = lists_of records }

-- what callers see of all devices: the devices with their stacks, and the limit on their stacks
pub record StacksValue : Type 0 where
  pub devices : DevicesValue
  pub limit : Limit

-- the records of the members of a stack describe it
pub record DescribesStack (records : List Device) (stack : List ℕ) : Type 0 where
  pub some : 0 < length stack
  pub few : length stack ≤ most_locations
  pub known : (place : ℕ) → place < length stack → member_at stack place < length records
  pub size : (place : ℕ) → place < length stack → (record_of records (member_at stack place)).size ≡ place + 1
  pub first : (record_of records (member_at stack 0)).lower ≡ None
  pub lower :
      (place : ℕ) → place + 1 < length stack
      → (record_of records (member_at stack (place + 1))).lower ≡ Some (id (member_at stack place))
  pub upper :
      (place : ℕ) → place + 1 < length stack
      → (record_of records (member_at stack place)).upper ≡ Some (id (member_at stack (place + 1)))
  pub last : (record_of records (member_at stack (length stack - 1))).upper ≡ None
  pub bottom :
      (place : ℕ) → place < length stack → (record_of records (member_at stack place)).bottom ≡ id (member_at stack 0)
  pub top : (record_of records (member_at stack 0)).top ≡ id (member_at stack (length stack - 1))
  pub live :
      (place : ℕ) → 1 < length stack → place < length stack → (record_of records (member_at stack place)).live ≡ true

-- a device stands in its stack, which is the stack of each member
pub record IsPlaced (records : List Device) (stacks : List (List ℕ)) (device : ℕ) : Type 0 where
  pub line : DescribesStack records (list_of stacks device)
  pub same :
      (place : ℕ) → place < length (list_of stacks device)
      → list_of stacks (member_at (list_of stacks device) place) ≡ list_of stacks device
  pub some : 0 < (record_of records device).size
  pub within : (record_of records device).size ≤ length (list_of stacks device)
  pub own : member_at (list_of stacks device) ((record_of records device).size - 1) ≡ device

-- the records describe these stacks, one beside each device
pub record DescribesStacks (records : List Device) (stacks : List (List ℕ)) : Type 0 where
  pub counted : length stacks ≡ length records
  pub placed : (device : ℕ) → device < length records → IsPlaced records stacks device

-- the records describe the stacks that one finds by walking
abbrev pub IsTidy : List Device → Type 0
IsTidy records = DescribesStacks records (lists_of records)

-- the record of a device is changed
abbrev pub edit : List Device → ℕ → (Device → Device) → List Device
edit records device change = slice_set records device (change (record_of records device))

-- the record of a device, deleted
abbrev pub dead : Device → Device
dead own = record own { live = false }

-- the record of a device that stands alone
abbrev pub made : DriverId → LockNo → ℕ → Device
made driver lock device = record {
  driver = driver;
  lock = lock;
  live = true;
  lower = None;
  upper = None;
  bottom = id device;
  top = id device;
  size = 1;
}

-- a device stands above `top` at this position, and is the top of the stack over `bottom`
abbrev pub put_above : List Device → DeviceId → DeviceId → DeviceId → ℕ → List Device
put_above records device top bottom size =
    edit (edit (edit records top.0 (λ old. record old { upper = Some device })) bottom.0
    (λ old. record old { top = device }))
    device.0 (λ old. record old { lower = Some top; bottom = bottom; size = size })

-- nobody stands above `lower`, the top of the stack over `bottom`, or below `upper`, over which `top` is the top
abbrev pub cut_between : List Device → DeviceId → DeviceId → DeviceId → DeviceId → List Device
cut_between records lower upper bottom top =
    edit (edit (edit records lower.0 (λ old. record old { upper = None })) bottom.0 (λ old. record old { top = lower }))
    upper.0 (λ old. record old { lower = None; top = top })

-- those of a list get a new bottom, and positions from `size` on
unfoldable pub renumbered : DeviceId → ℕ → List ℕ → List Device → List Device
renumbered bottom size [] records = records
renumbered bottom size (device ∷ others) records =
    renumbered bottom (size + 1) others (edit records device (λ old. record old { bottom = bottom; size = size }))

-- a device was created and is live, and this is its record
pub record IsLiveRecord (records : List Device) (device : ℕ) (own : Device) : Type 0 where
  pub known : device < length records
  pub is : own ≡ record_of records device
  pub live : own.live ≡ true

-- what a look at the record of a device answers
abbrev pub FoundLive : List Device → ℕ → Result Device Refusal → Type 0
FoundLive records device (Ok own) = IsLiveRecord records device own
FoundLive records device (Err refusal) = first_failing (device_checks (value_of records) device) ≡ Some refusal
