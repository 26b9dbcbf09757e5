-- What attach answers and leaves, from what it reads of the records.
use Rattle.std.proofs.Common.{◌≡◌, ℕ, ◌+◌, ◌-◌, ◌<◌, ◌≤◌, ◌≢◌, true, false, List, [], ◌∷◌, ◌++◌, length, sym, ◌∙◌, ap, subst, arith, Some, None}
use Rattle.std.proofs.lemmas.List.{get_or_default}
use Rattle.irp_types.specs.declared.limit.Limit.{Limit}
use Rattle.irp_types.specs.declared.limit.Limit.TheVariants.{Sixteen, ThirtyTwo}
use Rattle.irp_types.specs.Limits.{most_locations, most_under}
use Rattle.irp_types.specs.Stacks.{DevicesValue, regrouped, top_of, after_attach, device_checks, attach_checks}
use Rattle.irp_types.specs.Checks.{first_failing}
use Rattle.irp_types.specs.declared.names.DeviceId.{DeviceId}
use Rattle.irp_types.specs.declared.refusal.Refusal.{Refusal}
use Rattle.irp_types.specs.declared.refusal.Refusal.TheVariants.{SameStack, StillAttached, TooDeep}
use Rattle.irp_stack.specs.declared.device.Device.{Device}
use Rattle.irp_stack.specs.Records.{record_of, list_of, names_neighbour, id, value_of, lists_of, put_above, IsLiveRecord, IsTidy}
use Rattle.irp_stack.proofs.Walks.{bottom_is}
use Rattle.irp_stack.proofs.Looks.{alone}
use Rattle.irp_stack.proofs.Refusing.{attach_target, attach_same, attach_still, attach_deep, attach_fine}
use Rattle.irp_stack.proofs.Attached.{Attaches, attached, tied_joined, facts_joined, joined_length}
use Rattle.irp_stack.proofs.Tidying.{tidy, value_is, same_bottom, other_bottom, top_is, depth_at, live_at, found_alive, neighboured, no_lower, no_upper, lone_at}

-- an attach that is not refused, from the records
joining : (records : List Device) → IsTidy records → (device to : ℕ) → device < length records → to < length records
    → (record_of records device).bottom.0 ≢ (record_of records to).bottom.0 → (record_of records device).lower ≡ None
    → (record_of records device).upper ≡ None → (record_of records device).live ≡ true → (record_of records to).live ≡ true
    → (record_of records (record_of records (record_of records to).bottom.0).top.0).size < most_locations
    → Attaches records (lists_of records) device to (record_of records (record_of records to).bottom.0).top.0 (record_of records to).bottom.0
joining R w d t hd ht ne lo up l1 l2 room =
    record {
      tied = w;
      known = hd;
      target = ht;
      lone = alone R (lists_of R) d (w.placed d hd) lo up;
      apart = other_bottom R w t d ht hd (λ e. ne (sym e));
      room = omega (arith, room, depth_at R w t ht);
      top_is = ap (λ (x : DeviceId). x.0) (top_is R w t ht);
      bottom_is = ap (λ (x : DeviceId). x.0) (bottom_is R (lists_of R) t (w.placed t ht));
      live = l1;
      live_target = l2;
    }

-- what attach leaves
attached_value : (records : List Device) (device to top bottom : ℕ) → Attaches records (lists_of records) device to top bottom
    → value_of (put_above records (id device) (id top) (id bottom) (length (list_of (lists_of records) to) + 1)) ≡ after_attach
    (value_of records) device to
attached_value R d t top bottom j =
    value_is R (attached R (lists_of R) d t top bottom) (regrouped (lists_of R) (list_of (lists_of R) t ++ d ∷ [])) (tied_joined j)
    (facts_joined R (lists_of R) d t top bottom)

attached_tidy : (records : List Device) (device to top bottom : ℕ) → Attaches records (lists_of records) device to top bottom
    → IsTidy (put_above records (id device) (id top) (id bottom) (length (list_of (lists_of records) to) + 1))
attached_tidy R d t top bottom j = tidy (attached R (lists_of R) d t top bottom) (regrouped (lists_of R) (list_of (lists_of R) t ++ d ∷ [])) (tied_joined j)

answer_top : (records : List Device) → IsTidy records → (to : ℕ) → to < length records
    → (record_of records (record_of records to).bottom.0).top ≡ id (top_of (value_of records) to)
answer_top R w t h =
    let p = w.placed t h in
    let s = list_of (lists_of R) t in
    let l : length s - 1 < length s = omega (arith, p.line.some) in
    top_is R w t h ∙ ap id (get_or_default s (length s - 1) 0 t l)

-- the refusals of attach
pub out_target : (limit : Limit) {records : List Device} {devices : DevicesValue} {device : ℕ} (to : ℕ) {own : Device} {refusal : Refusal} → value_of records ≡ devices
    → IsLiveRecord records device own → first_failing (device_checks (value_of records) to) ≡ Some refusal
    → first_failing (attach_checks limit devices device to) ≡ Some refusal
out_target l {records = R} {devices = v} {device = d} t {own} {refusal = e} eq f h =
    subst (λ v. first_failing (attach_checks l v d t) ≡ Some e) eq (attach_target l (value_of R) d t e (found_alive R d own f) h)

pub out_same : (limit : Limit) {records : List Device} {devices : DevicesValue} {device to : ℕ} {own target : Device} → value_of records ≡ devices → IsTidy records
    → IsLiveRecord records device own → IsLiveRecord records to target → own.bottom.0 ≡ target.bottom.0
    → first_failing (attach_checks limit devices device to) ≡ Some SameStack
out_same l {records = R} {devices = v} {device = d} {to = t} {own} {target} eq w f g e =
    let b : (record_of R d).bottom.0 ≡ (record_of R t).bottom.0 = ap (λ (r : Device). r.bottom.0) (sym f.is) ∙ e
    ∙ ap (λ (r : Device). r.bottom.0) g.is in
    subst (λ v. first_failing (attach_checks l v d t) ≡ Some SameStack) eq
    (attach_same l (value_of R) d t (found_alive R d own f) (found_alive R t target g) (same_bottom R w d t f.known g.known b))

apart_at : (records : List Device) (device to : ℕ) (own target : Device) → IsLiveRecord records device own → IsLiveRecord records to target
    → (own.bottom.0 ≡ target.bottom.0 → ⊥) → (record_of records device).bottom.0 ≢ (record_of records to).bottom.0
apart_at R d t own target f g ne e = ne (ap (λ (r : Device). r.bottom.0) f.is ∙ e ∙ ap (λ (r : Device). r.bottom.0) (sym g.is))

pub out_still : (limit : Limit) {records : List Device} {devices : DevicesValue} {device to : ℕ} {own target : Device} → value_of records ≡ devices → IsTidy records
    → IsLiveRecord records device own → IsLiveRecord records to target → (own.bottom.0 ≡ target.bottom.0 → ⊥) → names_neighbour own ≡ true
    → first_failing (attach_checks limit devices device to) ≡ Some StillAttached
out_still l {records = R} {devices = v} {device = d} {to = t} {own} {target} eq w f g ne some =
    subst (λ v. first_failing (attach_checks l v d t) ≡ Some StillAttached) eq
    (attach_still l (value_of R) d t (found_alive R d own f) (found_alive R t target g)
    (other_bottom R w d t f.known g.known (apart_at R d t own target f g ne)) (neighboured R w d own f some))

end_size : (records : List Device) → IsTidy records → (to : ℕ) (target base end : Device) → IsLiveRecord records to target
    → base ≡ record_of records target.bottom.0 → end ≡ record_of records base.top.0 → end.size ≡ length (list_of (lists_of records) to)
end_size R w t target base end g b e =
    ap (λ (r : Device). r.size) e ∙ ap (λ (r : Device). (record_of R r.top.0).size) b
    ∙ ap (λ (r : Device). (record_of R (record_of R r.bottom.0).top.0).size) g.is ∙ depth_at R w t g.known

pub out_deep : (limit : Limit) {records : List Device} {devices : DevicesValue} {device to : ℕ} {own target base end : Device} → value_of records ≡ devices
    → IsTidy records → IsLiveRecord records device own → IsLiveRecord records to target → (own.bottom.0 ≡ target.bottom.0 → ⊥)
    → names_neighbour own ≡ false → base ≡ record_of records target.bottom.0 → end ≡ record_of records base.top.0 → most_under limit ≤ end.size
    → first_failing (attach_checks limit devices device to) ≡ Some TooDeep
out_deep l {records = R} {devices = v} {device = d} {to = t} {own} {target} {base} {end} eq w f g ne lone b e deep =
    let one = lone_at R w d own f lone in
    let few : length (list_of (lists_of R) d) ≤ 1 = omega (arith, one) in
    let size = end_size R w t target base end g b e in
    let deep2 : most_under l ≤ length (list_of (lists_of R) t) = omega (arith, deep, size) in
    subst (λ v. first_failing (attach_checks l v d t) ≡ Some TooDeep) eq
    (attach_deep l (value_of R) d t (found_alive R d own f) (found_alive R t target g)
    (other_bottom R w d t f.known g.known (apart_at R d t own target f g ne)) few deep2)

base_top : (records : List Device) (to : ℕ) (target base : Device) → IsLiveRecord records to target → base ≡ record_of records target.bottom.0
    → base.top ≡ (record_of records (record_of records to).bottom.0).top
base_top R t target base g b = ap (λ (r : Device). r.top) b ∙ ap (λ (r : Device). (record_of R r.bottom.0).top) g.is

-- no limit allows more than there may be
under : (limit : Limit) → most_under limit ≤ most_locations
under Sixteen = omega arith
under ThirtyTwo = omega arith

-- what is to be shown of an attach that is not refused
pub record IsAttached (limit : Limit) (records : List Device) (devices : DevicesValue) (device to : ℕ) (top bottom : DeviceId) (size : ℕ) : Type 0 where
  pub fine : first_failing (attach_checks limit devices device to) ≡ None
  pub answer : top ≡ id (top_of devices to)
  pub value : value_of (put_above records (id device) top bottom size) ≡ after_attach devices device to
  pub tidied : IsTidy (put_above records (id device) top bottom size)
  pub long : length (put_above records (id device) top bottom size) ≡ length records

pub out_fine : (limit : Limit) {records : List Device} {devices : DevicesValue} {device to : ℕ} {own target base end : Device} → value_of records ≡ devices
    → IsTidy records → IsLiveRecord records device own → IsLiveRecord records to target → (own.bottom.0 ≡ target.bottom.0 → ⊥)
    → names_neighbour own ≡ false → base ≡ record_of records target.bottom.0 → end ≡ record_of records base.top.0 → end.size < most_under limit
    → IsAttached limit records devices device to base.top target.bottom (end.size + 1)
out_fine l {records = R} {devices = v} {device = d} {to = t} {own} {target} {base} {end} eq w f g ne lone b e room =
    let one = lone_at R w d own f lone in
    let few : length (list_of (lists_of R) d) ≤ 1 = omega (arith, one) in
    let size = end_size R w t target base end g b e in
    let room2 : length (list_of (lists_of R) t) < most_under l = omega (arith, room, size) in
    let top = base_top R t target base g b in
    let bottom : target.bottom ≡ (record_of R t).bottom = ap (λ (r : Device). r.bottom) g.is in
    let j = joining R w d t f.known g.known (apart_at R d t own target f g ne)
    (ap (λ (r : Device). r.lower) (sym f.is) ∙ no_lower own lone) (ap (λ (r : Device). r.upper) (sym f.is) ∙ no_upper own lone)
    (live_at R d own f) (live_at R t target g) (omega (arith, room2, under l, depth_at R w t g.known)) in
    let spot : put_above R (id d) base.top target.bottom (end.size + 1)
    ≡ put_above R (id d) (record_of R (record_of R t).bottom.0).top (record_of R t).bottom (length (list_of (lists_of R) t) + 1) =
    λ i. put_above R (id d) (top i) (bottom i) (size i + 1) in
    record {
      fine = subst (λ v. first_failing (attach_checks l v d t) ≡ None) eq
          (attach_fine l (value_of R) d t (found_alive R d own f) (found_alive R t target g)
          (other_bottom R w d t f.known g.known (apart_at R d t own target f g ne)) few room2);
      answer = top ∙ answer_top R w t g.known ∙ ap (λ v. id (top_of v t)) eq;
      value = ap value_of spot ∙ attached_value R d t (record_of R (record_of R t).bottom.0).top.0 (record_of R t).bottom.0 j
          ∙ ap (λ v. after_attach v d t) eq;
      tidied = subst IsTidy (sym spot) (attached_tidy R d t (record_of R (record_of R t).bottom.0).top.0 (record_of R t).bottom.0 j);
      long = ap length spot ∙ joined_length R (lists_of R) d t (record_of R (record_of R t).bottom.0).top.0 (record_of R t).bottom.0;
    }
