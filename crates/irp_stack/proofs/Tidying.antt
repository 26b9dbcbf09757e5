-- What tidy records tell: of the stacks that one finds by walking, of bottoms and tops, and of a live device.
use Rattle.std.proofs.Common.{◌≡◌, ℕ, ◌+◌, ◌-◌, ◌<◌, ◌≢◌, ◌||◌, Bool, true, false, is_some, List, length, map, refl, sym, ◌∙◌, ap, subst, arith, Option, Some, None, inl, inr, ◌⊎◌}
use Rattle.std.proofs.lemmas.Bool.{true≢false}
use Rattle.irp_types.specs.declared.names.DeviceId.{DeviceId}
use Rattle.irp_stack.specs.declared.device.Device.{Device}
use Rattle.irp_stack.specs.Records.{record_of, member_at, list_of, names_neighbour, id, facts_in, value_of, lists_of, IsLiveRecord, DescribesStacks, IsTidy}
use Rattle.irp_stack.proofs.Regrouped.{IsIn, IsOut}
use Rattle.irp_stack.proofs.Walks.{bottom_is, lists_are}
use Rattle.irp_stack.proofs.Looks.{alone, not_alone_below, not_alone_above}
use Rattle.irp_stack.proofs.Refusing.{IsAlive, alive}

-- records that describe these stacks are tidy, and show them
pub tidy : (records : List Device) (stacks : List (List ℕ)) → DescribesStacks records stacks → IsTidy records
tidy R S t = subst (DescribesStacks R) (sym (lists_are R S t)) t

pub value_is : (records changed : List Device) (stacks : List (List ℕ)) → DescribesStacks changed stacks → map facts_in changed ≡ map facts_in records
    → value_of changed ≡ record { facts = map facts_in records; stacks = stacks }
value_is R M S t f = λ i. record { facts = f i; stacks = lists_are M S t i }

-- two devices are in one stack exactly where their bottoms are one
pub same_bottom : (records : List Device) → IsTidy records → (device other : ℕ) → device < length records → other < length records
    → (record_of records device).bottom.0 ≡ (record_of records other).bottom.0 → IsIn (list_of (lists_of records) device) other
same_bottom R w d t hd ht e =
    let S = lists_of R in
    let p = w.placed d hd in
    let q = w.placed t ht in
    let b : member_at (list_of S d) 0 ≡ member_at (list_of S t) 0 =
    ap (λ (x : DeviceId). x.0) (sym (bottom_is R S d p)) ∙ e ∙ ap (λ (x : DeviceId). x.0) (bottom_is R S t q) in
    let f : list_of S d ≡ list_of S t =
    sym (p.same 0 p.line.some) ∙ ap (λ n. list_of S n) b ∙ q.same 0 q.line.some in
    let lt : (record_of R t).size - 1 < length (list_of S t) = omega (arith, q.within, q.some) in
    ((record_of R t).size - 1, subst (λ y. (record_of R t).size - 1 < length y) (sym f) lt, ap (λ y. member_at y ((record_of R t).size - 1)) f ∙ q.own)

pub other_bottom : (records : List Device) → IsTidy records → (device other : ℕ) → device < length records → other < length records
    → (record_of records device).bottom.0 ≢ (record_of records other).bottom.0 → IsOut (list_of (lists_of records) device) other
other_bottom R w d t hd ht ne k h e =
    let S = lists_of R in
    let p = w.placed d hd in
    let q = w.placed t ht in
    let f : list_of S t ≡ list_of S d = ap (λ n. list_of S n) (sym e) ∙ p.same k h in
    ne (ap (λ (x : DeviceId). x.0) (bottom_is R S d p) ∙ ap (λ y. member_at y 0) (sym f) ∙ ap (λ (x : DeviceId). x.0) (sym (bottom_is R S t q)))

-- the top of a device's stack
pub top_is : (records : List Device) → IsTidy records → (device : ℕ) → device < length records
    → (record_of records (record_of records device).bottom.0).top ≡ id
    (member_at (list_of (lists_of records) device) (length (list_of (lists_of records) device) - 1))
top_is R w t h =
    let p = w.placed t h in
    ap (λ (b : DeviceId). (record_of R b.0).top) (bottom_is R (lists_of R) t p) ∙ p.line.top

pub bottom_known : (records : List Device) → IsTidy records → (device : ℕ) → device < length records
    → (record_of records device).bottom.0 < length records
bottom_known R w t h =
    let p = w.placed t h in
    subst (λ (b : DeviceId). b.0 < length R) (sym (bottom_is R (lists_of R) t p)) (p.line.known 0 p.line.some)

pub top_known : (records : List Device) → IsTidy records → (device : ℕ) → device < length records
    → (record_of records (record_of records device).bottom.0).top.0 < length records
top_known R w t h =
    let p = w.placed t h in
    let l : length (list_of (lists_of R) t) - 1 < length (list_of (lists_of R) t) = omega (arith, p.line.some) in
    subst (λ (b : DeviceId). b.0 < length R) (sym (top_is R w t h)) (p.line.known (length (list_of (lists_of R) t) - 1) l)

pub depth_at : (records : List Device) → IsTidy records → (device : ℕ) → device < length records
    → (record_of records (record_of records (record_of records device).bottom.0).top.0).size ≡ length (list_of (lists_of records) device)
depth_at R w t h =
    let p = w.placed t h in
    let s = list_of (lists_of R) t in
    let l : length s - 1 < length s = omega (arith, p.line.some) in
    let e : length s - 1 + 1 ≡ length s = omega (arith, p.line.some) in
    ap (λ (b : DeviceId). (record_of R b.0).size) (top_is R w t h) ∙ p.line.size (length s - 1) l ∙ e

pub live_at : (records : List Device) (device : ℕ) (own : Device) → IsLiveRecord records device own → (record_of records device).live ≡ true
live_at R d r f = ap (λ (x : Device). x.live) (sym f.is) ∙ f.live

pub found_alive : (records : List Device) (device : ℕ) (own : Device) → IsLiveRecord records device own → IsAlive (value_of records) device
found_alive R d r f = alive R (lists_of R) d f.known (live_at R d r f)

none_from : (given : Option DeviceId) → is_some given ≡ false → given ≡ None
none_from None e = refl
none_from (Some x) e = absurd (true≢false e)

-- a device stands alone exactly where its record names no neighbour
either : (first second : Bool) → (first || second) ≡ true → (first ≡ true) ⊎ (second ≡ true)
either true b e = inl refl
either false b e = inr e

neither : (first second : Bool) → (first || second) ≡ false → (first ≡ false) × (second ≡ false)
neither true b e = absurd (true≢false e)
neither false b e = (refl, e)

pub neighboured : (records : List Device) → IsTidy records → (device : ℕ) (own : Device) → IsLiveRecord records device own → names_neighbour own ≡ true
    → 1 < length (list_of (lists_of records) device)
neighboured R w d own f e =
    elim (either (is_some own.lower) (is_some own.upper) e) as (λ _. 1 < length (list_of (lists_of R) d)) [
      | inl lo ↦ not_alone_below R (lists_of R) d (w.placed d f.known) (ap (λ (r : Device). is_some r.lower) (sym f.is) ∙ lo)
      | inr up ↦ not_alone_above R (lists_of R) d (w.placed d f.known) (ap (λ (r : Device). is_some r.upper) (sym f.is) ∙ up)
    ]

pub no_lower : (own : Device) → names_neighbour own ≡ false → own.lower ≡ None
no_lower own e = none_from own.lower (neither (is_some own.lower) (is_some own.upper) e).0

pub no_upper : (own : Device) → names_neighbour own ≡ false → own.upper ≡ None
no_upper own e = none_from own.upper (neither (is_some own.lower) (is_some own.upper) e).1

pub lone_at : (records : List Device) → IsTidy records → (device : ℕ) (own : Device) → IsLiveRecord records device own → names_neighbour own ≡ false
    → length (list_of (lists_of records) device) ≡ 1
lone_at R w d own f e =
    alone R (lists_of R) d (w.placed d f.known)
    (ap (λ (r : Device). r.lower) (sym f.is) ∙ no_lower own e)
    (ap (λ (r : Device). r.upper) (sym f.is) ∙ no_upper own e)
