-- What detach answers and leaves, from what it reads of the records.
use Rattle.std.proofs.Common.{◌≡◌, ℕ, ◌+◌, ◌-◌, ◌<◌, suc, true, List, [], ◌∷◌, length, drop, map, refl, sym, ◌∙◌, ap, subst, arith, Option, Some, None, inl, inr, unwrap_or}
use Rattle.std.specs.Option.{option_map}
use Rattle.std.proofs.lemmas.Bool.{cases_lt}
use Rattle.std.proofs.lemmas.Option.{none-some, same_Some}
use Rattle.irp_types.specs.Limits.{most_locations}
use Rattle.irp_types.specs.Stacks.{DevicesValue, depth_of, upper_of, after_detach, detach_checks}
use Rattle.irp_types.specs.Checks.{first_failing}
use Rattle.irp_types.specs.declared.names.DeviceId.{DeviceId}
use Rattle.std.specs.List.{AllByRecursion}
use Rattle.irp_types.specs.declared.refusal.Refusal.TheVariants.{NothingAttached}
use Rattle.irp_stack.specs.declared.device.Device.{Device}
use Rattle.irp_stack.specs.Records.{record_of, member_at, list_of, id, facts_in, value_of, lists_of, cut_between, walk, renumbered, IsLiveRecord, IsPlaced, IsTidy}
use Rattle.irp_stack.proofs.Walks.{bottom_is}
use Rattle.irp_stack.proofs.Looks.{size_is, upper_is}
use Rattle.irp_stack.proofs.Refusing.{alive, detach_none, detach_fine}
use Rattle.irp_stack.proofs.Detached.{Detaches, detached, parted, walked, tied_detached, facts_detached, detached_length, known_high}
use Rattle.irp_stack.proofs.Tidying.{tidy, value_is, top_is, live_at, found_alive}

not_alone_size : (records : List Device) (stacks : List (List ℕ)) (lower : ℕ) (upper : DeviceId) → IsPlaced records stacks lower
    → (record_of records lower).upper ≡ Some upper → (record_of records lower).size < length (list_of stacks lower)
not_alone_size R S x u p up =
    let s = list_of S x in
    elim (cases_lt (record_of R x).size (length s)) as (λ _. (record_of R x).size < length s) [
      | inl lt ↦ lt
      | inr ge ↦
          let e : length s - 1 ≡ (record_of R x).size - 1 = omega (arith, ge, p.within) in
          absurd (none-some u (sym p.line.last ∙ ap (λ i. (record_of R (member_at s i)).upper) e ∙ ap (λ n. (record_of R n).upper) p.own ∙ up))
    ]

-- where the device above a device stands
above_at : (records : List Device) (stacks : List (List ℕ)) (lower : ℕ) (upper : DeviceId) → IsPlaced records stacks lower
    → (record_of records lower).upper ≡ Some upper
    → ((record_of records lower).size < length (list_of stacks lower)) × (upper.0 ≡ member_at (list_of stacks lower) (record_of records lower).size)
above_at R S x u p up =
    let s = list_of S x in
    let more = not_alone_size R S x u p up in
    let k = (record_of R x).size - 1 in
    let e : k + 1 ≡ (record_of R x).size = omega (arith, p.some) in
    let lt : k + 1 < length s = omega (arith, more, e) in
    let named : Some u ≡ Some (id (member_at s (k + 1))) = sym up ∙ ap (λ n. (record_of R n).upper) (sym p.own) ∙ p.line.upper k lt in
    (more, ap (λ (o : Option DeviceId). (unwrap_or o u).0) named ∙ ap (λ i. member_at s i) e)

cutting : (records : List Device) → IsTidy records → (lower : ℕ) (upper : DeviceId) → lower < length records
    → (record_of records lower).upper ≡ Some upper
    → Detaches records (lists_of records) (list_of (lists_of records) lower) (record_of records lower).size lower upper.0
    (record_of records lower).bottom.0 (record_of records (record_of records lower).bottom.0).top.0
cutting R w x u h up =
    let p = w.placed x h in
    let a = above_at R (lists_of R) x u p up in
    record {
      tied = w;
      known = h;
      list = refl;
      some = p.some;
      more = a.0;
      lower_is = sym p.own;
      upper_is = a.1;
      bottom_is = ap (λ (y : DeviceId). y.0) (bottom_is R (lists_of R) x p);
      top_is = ap (λ (y : DeviceId). y.0) (top_is R w x h);
    }

pub out_nothing : {records : List Device} {devices : DevicesValue} {device : ℕ} {own : Device} → value_of records ≡ devices → IsTidy records
    → IsLiveRecord records device own → own.upper ≡ None → first_failing (detach_checks devices device) ≡ Some NothingAttached
out_nothing {records = R} {devices = v} {device = d} {own} eq w f e =
    subst (λ v. first_failing (detach_checks v d) ≡ Some NothingAttached) eq
    (detach_none (value_of R) d (found_alive R d own f) (upper_is R (lists_of R) d (w.placed d f.known) ∙ ap (λ (r : Device). r.upper) (sym f.is) ∙ e))

-- the records after a detach
abbrev pub split : List Device → ℕ → DeviceId → DeviceId → DeviceId → List Device
split records lower upper bottom top =
    let cut = cut_between records (id lower) upper bottom top in renumbered upper 1 (walk most_locations cut upper.0) cut

-- what is to be shown of a detach that is not refused
pub record IsDetached (records : List Device) (devices : DevicesValue) (lower : ℕ) (upper bottom top : DeviceId) : Type 0 where
  pub fine : first_failing (detach_checks devices lower) ≡ None
  pub answer : upper ≡ id (unwrap_or (upper_of devices lower) 0)
  pub known : let cut = cut_between records (id lower) upper bottom top in
      AllByRecursion (λ member. member < length cut) (walk most_locations cut upper.0)
  pub value : value_of (split records lower upper bottom top) ≡ after_detach devices lower
  pub tidied : IsTidy (split records lower upper bottom top)
  pub long : length (split records lower upper bottom top) ≡ length records

all_drop : (Holds : ℕ → Type 0) (stack : List ℕ) → ((place : ℕ) → place < length stack → Holds (member_at stack place)) → AllByRecursion Holds stack
all_drop P [] h = tt
all_drop P (x ∷ s) h = (h 0 (omega arith), all_drop P s (λ k l. h (suc k) (omega (arith, l))))

named : (given : Option ℕ) (upper : DeviceId) → option_map id given ≡ Some upper → upper ≡ id (unwrap_or given 0)
named None u e = absurd (none-some u e)
named (Some x) u e = sym (same_Some (id x) u e)

cut_value : (records : List Device) → IsTidy records → (lower : ℕ) (upper : DeviceId) → lower < length records
    → (record_of records lower).upper ≡ Some upper → (record_of records lower).live ≡ true
    → IsDetached records (value_of records) lower upper (record_of records lower).bottom (record_of records (record_of records lower).bottom.0).top
cut_value R w x u h up l1 =
    let S = lists_of R in
    let s = list_of S x in
    let p = w.placed x h in
    let c = (record_of R x).size in
    let b = (record_of R x).bottom in
    let t = (record_of R (record_of R x).bottom.0).top in
    let j = cutting R w x u h up in
    let M1 = cut_between R (id x) u b t in
    let wk : walk most_locations M1 u.0 ≡ drop c s = walked j in
    let same : renumbered u 1 (walk most_locations M1 u.0) M1 ≡ detached R s c x u.0 b.0 t.0 = ap (λ l. renumbered u 1 l M1) wk in
    let depth : depth_of (value_of R) x + 1 ≡ c = sym (size_is R S x p) in
    let tied = tied_detached j in
    record {
      fine = detach_fine (value_of R) x u (alive R S x h l1) (upper_is R S x p ∙ up);
      answer = named (upper_of (value_of R) x) u (upper_is R S x p ∙ up);
      known = subst (AllByRecursion (λ d. d < length M1)) (sym wk) (all_drop (λ d. d < length M1) (drop c s) (known_high j));
      value = ap value_of same ∙ value_is R (detached R s c x u.0 b.0 t.0) (parted S s c) tied (facts_detached R s c x u.0 b.0 t.0)
          ∙ ap (λ n. record { facts = map facts_in R; stacks = parted S s n }) (sym depth);
      tidied = subst IsTidy (sym same) (tidy (detached R s c x u.0 b.0 t.0) (parted S s c) tied);
      long = ap length same ∙ detached_length j;
    }

pub out_cut : {records : List Device} {devices : DevicesValue} {lower : ℕ} {upper : DeviceId} {own base : Device} → value_of records ≡ devices
    → IsTidy records → IsLiveRecord records lower own → own.upper ≡ Some upper → base ≡ record_of records own.bottom.0
    → IsDetached records devices lower upper own.bottom base.top
out_cut {records = R} {devices = v} {lower = x} {upper = u} {own} {base} eq w f up b =
    let bottom : own.bottom ≡ (record_of R x).bottom = ap (λ (r : Device). r.bottom) f.is in
    let top : base.top ≡ (record_of R (record_of R x).bottom.0).top = ap (λ (r : Device). r.top) b
    ∙ ap (λ (r : Device). (record_of R r.bottom.0).top) f.is in
    let k = cut_value R w x u f.known (ap (λ (r : Device). r.upper) (sym f.is) ∙ up) (live_at R x own f) in
    subst (λ v. IsDetached R v x u own.bottom base.top) eq
    (subst (λ y. IsDetached R (value_of R) x u y base.top) (sym bottom) (subst (λ y. IsDetached R (value_of R) x u (record_of R x).bottom y) (sym top) k))
