-- What the readers answer, and that each device is at one place of one stack.
use Rattle.std.proofs.Common.{◌≡◌, ℕ, ◌+◌, ◌-◌, ◌<◌, List, length, get_or, map, sym, ◌∙◌, ap, subst, arith}
use Rattle.std.specs.Option.{option_map}
use Rattle.std.proofs.lemmas.Bool.{ltb-true}
use Rattle.std.proofs.lemmas.List.{get_or_default, length-map}
use Rattle.irp_types.specs.Stacks.{DevicesValue, AreStacks, depth_of, lower_of}
use Rattle.irp_stack.specs.declared.device.Device.{Device}
use Rattle.irp_stack.specs.Records.{record_of, member_at, list_of, id, facts_in, value_of, lists_of, IsTidy}
use Rattle.irp_stack.proofs.Looks.{seen, depth_is, size_is, lower_is}
use Rattle.irp_stack.proofs.Refusing.{alive}

pub lower_read : (records : List Device) (devices : DevicesValue) (device : ℕ) → value_of records ≡ devices → IsTidy records → device < length records
    → (record_of records device).lower ≡ option_map id (lower_of devices device)
lower_read R v d eq w h = sym (lower_is R (lists_of R) d (w.placed d h)) ∙ ap (λ v. option_map id (lower_of v d)) eq

pub size_read : (records : List Device) (devices : DevicesValue) (device : ℕ) → value_of records ≡ devices → IsTidy records → device < length records
    → (record_of records device).size ≡ depth_of devices device + 1
size_read R v d eq w h = size_is R (lists_of R) d (w.placed d h) ∙ ap (λ v. depth_of v d + 1) eq

-- each device is at one place of one stack
pub are_stacks : (records : List Device) (devices : DevicesValue) → value_of records ≡ devices → IsTidy records → AreStacks devices
are_stacks R v eq w =
    let S = lists_of R in
    let n : length (map facts_in R) ≡ length R = length-map R facts_in in
    let inside : (d : ℕ) → d < length (map facts_in R) → d < length R = λ d h. omega (arith, h, n) in
    let at : (d : ℕ) → d < length (map facts_in R) → (record_of R d).size - 1 < length (list_of S d) = λ d h.
    let p = w.placed d (inside d h) in omega (arith, p.within, p.some) in
    subst AreStacks eq (record {
      counted = w.counted ∙ sym n;
      stands = λ d h.
          let p = w.placed d (inside d h) in
          let e = depth_is R S d p in
          record {
            within = subst (λ i. i < length (list_of S d)) (sym e) (at d h);
            there = ap (λ i. get_or (list_of S d) i d) e ∙ sym (get_or_default (list_of S d) ((record_of R d).size - 1) 0 d (at d h)) ∙ p.own;
          };
      members = λ d k h l.
          let p = w.placed d (inside d h) in
          let e : k + 1 - 1 ≡ k = omega arith in
          let m = member_at (list_of S d) k in
          let known : m < length R = p.line.known k l in
          let same : get_or (list_of S d) k d ≡ m = sym (get_or_default (list_of S d) k 0 d l) in
          record {
            created = subst (λ x. x < length (map facts_in R)) (sym same) (omega (arith, known, n));
            stack = ap (λ x. list_of S x) same ∙ p.same k l;
            depth = ap (λ x. depth_of (seen R S) x) same ∙ depth_is R S m (w.placed m known) ∙ ap (λ i. i - 1) (p.line.size k l) ∙ e;
          };
      few = λ d h. (w.placed d (inside d h)).line.few;
      live = λ d h more.
          let p = w.placed d (inside d h) in
          let two : 1 < length (list_of S d) = ltb-true 1 (length (list_of S d)) more in
          (alive R S d (inside d h) (ap (λ x. (record_of R x).live) (sym p.own) ∙ p.line.live ((record_of R d).size - 1) two (at d h))).live;
    })
