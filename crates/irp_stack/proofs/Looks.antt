-- What the stacks say of a device is what its record says: depth, lower, upper, and whether it stands alone.
use Rattle.std.proofs.Common.{◌≡◌, ℕ, ◌+◌, ◌-◌, ◌<◌, ◌≢◌, ◌==◌, nat_lt, true, false, cond, is_some, List, length, map, sym, ◌∙◌, ap, arith, Option, Some, None, inl, inr, unwrap_or}
use Rattle.std.specs.Option.{option_map}
use Rattle.std.specs.List.{position, slice_get, position_or_len}
use Rattle.std.proofs.lemmas.Bool.{cases_lt, cond-true, cond-false, lt-ltb, eq-eqb, ne_eqb, true≢false}
use Rattle.std.proofs.lemmas.List.Sums.{position_or_len_is}
use Rattle.std.proofs.lemmas.Option.{slice_get-get_or, slice_get_past, none-some}
use Rattle.irp_types.specs.Stacks.{DevicesValue, depth_of, lower_of, upper_of}
use Rattle.irp_types.specs.declared.names.DeviceId.{DeviceId}
use Rattle.irp_stack.specs.declared.device.Device.{Device}
use Rattle.irp_stack.specs.Records.{record_of, member_at, list_of, id, facts_in, IsPlaced}

none_is_some : (device : DeviceId) → ◌≡◌ {A = Option DeviceId} None (Some device) → ⊥
none_is_some x e = none-some x e

some_is_none : true ≡ false → ⊥
some_is_none e = true≢false e

abbrev pub seen : List Device → List (List ℕ) → DevicesValue
seen R S = record { facts = map facts_in R; stacks = S }

place_is : (stack : List ℕ) (device place : ℕ) → place < length stack → member_at stack place ≡ device
    → ((earlier : ℕ) → earlier < place → member_at stack earlier ≢ device) → unwrap_or (position (λ member. member == device) stack) 0 ≡ place
place_is s d i h e first =
    let p : position_or_len (λ e. e == d) s ≡ i =
    position_or_len_is (λ e. e == d) s i 0 (omega (arith, h)) (λ k l. ne_eqb (member_at s k) d (first k l)) (λ _. eq-eqb (member_at s i) d e) in
    ap (λ n. unwrap_or (cond (nat_lt n (length s)) (Some n) None) 0) p
    ∙ ap (λ b. unwrap_or (cond b (Some i) None) 0) (lt-ltb i (length s) h)

pub depth_is : (records : List Device) (stacks : List (List ℕ)) (device : ℕ) → IsPlaced records stacks device
    → depth_of (seen records stacks) device ≡ (record_of records device).size - 1
depth_is R S d p =
    let lt : (record_of R d).size - 1 < length (list_of S d) = omega (arith, p.within, p.some) in
    place_is (list_of S d) d ((record_of R d).size - 1) lt p.own
    (λ k h e.
    let l : k < length (list_of S d) = omega (arith, h, lt) in
    let z : (record_of R d).size ≡ k + 1 = ap (λ n. (record_of R n).size) (sym e) ∙ p.line.size k l in
    absurd (omega (arith, z, h)))

pub size_is : (records : List Device) (stacks : List (List ℕ)) (device : ℕ) → IsPlaced records stacks device
    → (record_of records device).size ≡ depth_of (seen records stacks) device + 1
size_is R S d p = let e = depth_is R S d p in omega (arith, e, p.some)

-- a device's record is the one at its place in its stack
at_own : {Part : Type 0} (read : Device → Part) (records : List Device) (stacks : List (List ℕ)) (device place : ℕ) → IsPlaced records stacks device
    → (record_of records device).size ≡ place + 1
    → read (record_of records device) ≡ read (record_of records (member_at (list_of stacks device) place))
at_own f R S d k p e =
    let n : (record_of R d).size - 1 ≡ k = omega (arith, e) in
    ap (λ m. f (record_of R m)) (sym p.own ∙ ap (λ j. member_at (list_of S d) j) n)

pub lower_is : (records : List Device) (stacks : List (List ℕ)) (device : ℕ) → IsPlaced records stacks device
    → option_map id (lower_of (seen records stacks) device) ≡ (record_of records device).lower
lower_is R S d p =
    let s = list_of S d in
    let e = depth_is R S d p in
    elim (cases_lt 1 (record_of R d).size) as (λ _. option_map id (lower_of (seen R S) d) ≡ (record_of R d).lower) [
      | inl more ↦
          let k = (record_of R d).size - 2 in
          let at : (record_of R d).size ≡ (k + 1) + 1 = omega (arith, more) in
          let ne : depth_of (seen R S) d ≡ 0 → ⊥ = λ z. omega (arith, z, e, more) in
          let below : depth_of (seen R S) d - 1 ≡ k = omega (arith, e) in
          let lt : k + 1 < length s = omega (arith, at, p.within) in
          let lt0 : k < length s = omega (arith, lt) in
          ap (option_map id) (cond-false (depth_of (seen R S) d == 0) None (slice_get s (depth_of (seen R S) d - 1)) (ne_eqb (depth_of (seen R S) d) 0 ne))
          ∙ ap (λ j. option_map id (slice_get s j)) below
          ∙ ap (option_map id) (slice_get-get_or s k 0 lt0)
          ∙ sym (p.line.lower k lt)
          ∙ sym (at_own (λ (r : Device). r.lower) R S d (k + 1) p at)
      | inr one ↦
          let at : (record_of R d).size ≡ 0 + 1 = omega (arith, one, p.some) in
          let z : depth_of (seen R S) d ≡ 0 = omega (arith, e, at) in
          ap (option_map id) (cond-true (depth_of (seen R S) d == 0) None (slice_get s (depth_of (seen R S) d - 1)) (eq-eqb (depth_of (seen R S) d) 0 z))
          ∙ sym (p.line.first)
          ∙ sym (at_own (λ (r : Device). r.lower) R S d 0 p at)
    ]

pub upper_is : (records : List Device) (stacks : List (List ℕ)) (device : ℕ) → IsPlaced records stacks device
    → option_map id (upper_of (seen records stacks) device) ≡ (record_of records device).upper
upper_is R S d p =
    let s = list_of S d in
    let e = depth_is R S d p in
    let k = (record_of R d).size - 1 in
    let at : (record_of R d).size ≡ k + 1 = omega (arith, p.some) in
    ap (λ j. option_map id (slice_get s (j + 1))) e
    ∙ elim (cases_lt (k + 1) (length s)) as (λ _. option_map id (slice_get s (k + 1)) ≡ (record_of R d).upper) [
      | inl more ↦
          ap (option_map id) (slice_get-get_or s (k + 1) 0 more)
          ∙ sym (p.line.upper k more)
          ∙ sym (at_own (λ (r : Device). r.upper) R S d k p at)
      | inr top ↦
          let last : k ≡ length s - 1 = omega (arith, top, at, p.within) in
          ap (option_map id) (slice_get_past s (k + 1) top)
          ∙ sym (p.line.last)
          ∙ ap (λ j. (record_of R (member_at s j)).upper) (sym last)
          ∙ sym (at_own (λ (r : Device). r.upper) R S d k p at)
    ]

-- a device whose record names no neighbour stands alone
pub alone : (records : List Device) (stacks : List (List ℕ)) (device : ℕ) → IsPlaced records stacks device → (record_of records device).lower ≡ None
    → (record_of records device).upper ≡ None → length (list_of stacks device) ≡ 1
alone R S d p low up =
    let s = list_of S d in
    let k = (record_of R d).size - 1 in
    let at : (record_of R d).size ≡ k + 1 = omega (arith, p.some) in
    elim (cases_lt 1 (record_of R d).size) as (λ _. length s ≡ 1) [
      | inl more ↦
          let j = (record_of R d).size - 2 in
          let at2 : (record_of R d).size ≡ (j + 1) + 1 = omega (arith, more) in
          let lt : j + 1 < length s = omega (arith, at2, p.within) in
          absurd (none_is_some (id (member_at s j)) (sym low ∙ at_own (λ (r : Device). r.lower) R S d (j + 1) p at2 ∙ p.line.lower j lt))
      | inr one ↦ elim (cases_lt (k + 1) (length s)) as (λ _. length s ≡ 1) [
        | inl above ↦ absurd (none_is_some (id (member_at s (k + 1))) (sym up ∙ at_own (λ (r : Device). r.upper) R S d k p at ∙ p.line.upper k above))
        | inr top ↦ omega (arith, top, at, one, p.within)
      ]
    ]

-- a device whose record names a neighbour doesn't
pub not_alone_below : (records : List Device) (stacks : List (List ℕ)) (device : ℕ) → IsPlaced records stacks device
    → is_some (record_of records device).lower ≡ true → 1 < length (list_of stacks device)
not_alone_below R S d p low =
    let s = list_of S d in
    elim (cases_lt 1 (record_of R d).size) as (λ _. 1 < length s) [
      | inl more ↦ omega (arith, more, p.within)
      | inr one ↦
          let at : (record_of R d).size ≡ 0 + 1 = omega (arith, one, p.some) in
          absurd (some_is_none (sym low ∙ ap is_some (at_own (λ (r : Device). r.lower) R S d 0 p at ∙ p.line.first)))
    ]

pub not_alone_above : (records : List Device) (stacks : List (List ℕ)) (device : ℕ) → IsPlaced records stacks device
    → is_some (record_of records device).upper ≡ true → 1 < length (list_of stacks device)
not_alone_above R S d p up =
    let s = list_of S d in
    let k = (record_of R d).size - 1 in
    let at : (record_of R d).size ≡ k + 1 = omega (arith, p.some) in
    elim (cases_lt (k + 1) (length s)) as (λ _. 1 < length s) [
      | inl more ↦ omega (arith, more)
      | inr top ↦
          let last : k ≡ length s - 1 = omega (arith, top, at, p.within) in
          absurd (some_is_none (sym up ∙ ap is_some (at_own (λ (r : Device). r.upper) R S d k p at ∙ ap (λ j. (record_of R (member_at s j)).upper) last ∙ p.line.last)))
    ]
