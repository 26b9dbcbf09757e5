-- What else the readers answer: the device above, and how many devices a stack has.
use Rattle.std.proofs.Common.{◌≡◌, ℕ, ◌<◌, ◌≤◌, ◌-◌, List, [], length, sym, ◌∙◌, ap, subst, arith, Some, None}
use Rattle.std.specs.Option.{option_map}
use Rattle.std.proofs.lemmas.List.{get_or_past}
use Rattle.irp_types.specs.Checks.{first_failing}
use Rattle.irp_types.specs.Stacks.{DevicesValue, stack_of, upper_of, detach_checks}
use Rattle.irp_types.specs.declared.names.DeviceId.{DeviceId}
use Rattle.irp_stack.specs.declared.device.Device.{Device}
use Rattle.irp_stack.specs.Records.{record_of, member_at, list_of, id, value_of, lists_of, IsLiveRecord, IsTidy}
use Rattle.irp_stack.proofs.Looks.{upper_is}
use Rattle.irp_stack.proofs.Walks.{bottom_is}
use Rattle.irp_stack.proofs.Refusing.{detach_fine}
use Rattle.irp_stack.proofs.Tidying.{depth_at, found_alive, top_is}

pub upper_read : (records : List Device) (devices : DevicesValue) (device : ℕ) → value_of records ≡ devices → IsTidy records → device < length records
    → (record_of records device).upper ≡ option_map id (upper_of devices device)
upper_read R v d eq w h = sym (upper_is R (lists_of R) d (w.placed d h)) ∙ ap (λ v. option_map id (upper_of v d)) eq

pub height_read : (records : List Device) (devices : DevicesValue) (device : ℕ) → value_of records ≡ devices → IsTidy records → device < length records
    → (record_of records (record_of records (record_of records device).bottom.0).top.0).size ≡ length (stack_of devices device)
height_read R v d eq w h = depth_at R w d h ∙ ap (λ v. length (stack_of v d)) eq

-- a device that was never created stands in no stack
pub height_none : (records : List Device) (devices : DevicesValue) (device : ℕ) → value_of records ≡ devices → IsTidy records → length records ≤ device
    → 0 ≡ length (stack_of devices device)
height_none R v d eq w h =
    ap (λ (stack : List ℕ). length stack) (sym (get_or_past (lists_of R) d [] (omega (arith, h, w.counted)))) ∙ ap (λ v. length (stack_of v d)) eq

-- the bottom and the top of a stack were created
pub bottom_known : (records : List Device) → IsTidy records → (device : ℕ) → device < length records → (record_of records device).bottom.0 < length records
bottom_known R w d h =
    let p = w.placed d h in
    subst (λ (bottom : DeviceId). bottom.0 < length R) (sym (bottom_is R (lists_of R) d p)) (p.line.known 0 p.line.some)

pub top_known : (records : List Device) → IsTidy records → (device : ℕ) → device < length records
    → (record_of records (record_of records device).bottom.0).top.0 < length records
top_known R w d h =
    let p = w.placed d h in
    let last = length (list_of (lists_of R) d) - 1 in
    let within : last < length (list_of (lists_of R) d) = omega (arith, p.line.some) in
    subst (λ (top : DeviceId). top.0 < length R) (sym (top_is R w d h)) (p.line.known last within)

-- a device that has one above isn't the top
pub out_above : {records : List Device} {devices : DevicesValue} {device : ℕ} {own : Device} {upper : DeviceId} → value_of records ≡ devices → IsTidy records
    → IsLiveRecord records device own → own.upper ≡ Some upper → first_failing (detach_checks devices device) ≡ None
out_above {records = R} {devices = v} {device = d} {own} {upper = u} eq w f e =
    subst (λ v. first_failing (detach_checks v d) ≡ None) eq
    (detach_fine (value_of R) d u (found_alive R d own f) (upper_is R (lists_of R) d (w.placed d f.known) ∙ ap (λ (r : Device). r.upper) (sym f.is) ∙ e))
