-- A walk over the records finds the stack that they describe, so they describe one stack for each device.
use Rattle.std.proofs.Common.{◌≡◌, ℕ, ◌+◌, ◌-◌, ◌<◌, ◌≤◌, zero, suc, List, [], ◌∷◌, length, drop, map, sym, ◌∙◌, ap, arith, Some, None, inl, inr}
use Rattle.std.specs.Option.{option_map_or}
use Rattle.std.proofs.lemmas.Bool.{cases_lt}
use Rattle.std.proofs.lemmas.List.{length-map, ext_get_or, get_or-map, drop_more, drop_all}
use Rattle.irp_types.specs.Limits.{most_locations}
use Rattle.irp_types.specs.declared.names.DeviceId.{DeviceId}
use Rattle.irp_stack.specs.declared.device.Device.{Device}
use Rattle.irp_stack.specs.Records.{record_of, member_at, list_of, blank, id, walk, lists_of, DescribesStack, IsPlaced, DescribesStacks}

-- from a place on, each member names the next
pub record IsRising (records : List Device) (stack : List ℕ) (start : ℕ) : Type 0 where
  pub upper : (place : ℕ) → start ≤ place → place + 1 < length stack → (record_of records (member_at stack place)).upper ≡ Some (id (member_at stack (place + 1)))
  pub last : (record_of records (member_at stack (length stack - 1))).upper ≡ None

pub walk_rising : (most : ℕ) (records : List Device) (stack : List ℕ) (start place : ℕ) → IsRising records stack start → start ≤ place
    → place < length stack → length stack ≤ most + place → walk most records (member_at stack place) ≡ drop place stack
unfolding walk
walk_rising zero R s c k l from h b = absurd (omega (arith, h, b))
walk_rising (suc n) R s c k l from h b =
    elim (cases_lt (k + 1) (length s)) as (λ _. walk (suc n) R (member_at s k) ≡ drop k s) [
      | inl more ↦
          ap (λ o. member_at s k ∷ option_map_or (λ (u : DeviceId). walk n R u.0) o []) (l.upper k from more)
          ∙ ap (λ t. member_at s k ∷ t) (walk_rising n R s c (k + 1) l (omega (arith, from)) more (omega (arith, b)))
          ∙ sym (drop_more s k 0 h)
      | inr top ↦
          let last : k ≡ length s - 1 = omega (arith, h, top) in
          let up : (record_of R (member_at s k)).upper ≡ None = ap (λ j. (record_of R (member_at s j)).upper) last ∙ l.last in
          ap (λ o. member_at s k ∷ option_map_or (λ (u : DeviceId). walk n R u.0) o []) up
          ∙ ap (λ t. member_at s k ∷ t) (sym (drop_all (k + 1) s top))
          ∙ sym (drop_more s k 0 h)
    ]

walk_line : (most : ℕ) (records : List Device) (stack : List ℕ) (place : ℕ) → DescribesStack records stack → place < length stack → length stack ≤ most + place
    → walk most records (member_at stack place) ≡ drop place stack
walk_line n R s k l h b = walk_rising n R s 0 k (record { upper = λ i _ m. l.upper i m; last = l.last }) (omega arith) h b

-- the bottom of a device's stack
pub bottom_is : (records : List Device) (stacks : List (List ℕ)) (device : ℕ) → IsPlaced records stacks device
    → (record_of records device).bottom ≡ id (member_at (list_of stacks device) 0)
bottom_is R S d p =
    let lt : (record_of R d).size - 1 < length (list_of S d) = omega (arith, p.within, p.some) in
    ap (λ n. (record_of R n).bottom) (sym p.own) ∙ p.line.bottom ((record_of R d).size - 1) lt

-- records describe one stack for each device
pub lists_are : (records : List Device) (stacks : List (List ℕ)) → DescribesStacks records stacks → lists_of records ≡ stacks
unfolding lists_of
lists_are R S t =
    let f : Device → List ℕ = λ r. walk most_locations R r.bottom.0 in
    ext_get_or [] (map f R) S (length-map R f ∙ sym t.counted)
    (λ d h.
    let lt : d < length R = omega (arith, h, length-map R f) in
    let p = t.placed d lt in
    let b : length (list_of S d) ≤ most_locations + 0 = omega (arith, p.line.few) in
    get_or-map f R d blank [] lt
    ∙ ap (λ (e : DeviceId). walk most_locations R e.0) (bottom_is R S d p)
    ∙ walk_line most_locations R (list_of S d) 0 p.line p.line.some b)
