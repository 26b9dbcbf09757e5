-- What giving a row of devices a new bottom and new positions leaves of the records.
use Rattle.std.proofs.Common.{◌≡◌, ℕ, ◌+◌, ◌<◌, zero, suc, List, [], ◌∷◌, length, map, refl, sym, ◌∙◌, ap, subst, arith, Option, Some, None, inl, inr}
use Rattle.std.specs.Option.{option_map_or}
use Rattle.std.specs.List.{AllByRecursion}
use Rattle.irp_types.specs.declared.names.DeviceId.{DeviceId}
use Rattle.irp_stack.specs.declared.device.Device.{Device}
use Rattle.irp_stack.specs.Records.{record_of, member_at, edit, walk, renumbered}
use Rattle.irp_stack.proofs.Regrouped.{IsOut, find_place, edit_length, edit_here, edit_else, edit_keeps, edit_maps}

abbrev pub at_place : DeviceId → ℕ → Device → Device
at_place b n r = record r { bottom = b; size = n }

-- a change that keeps what is above keeps each walk; the steps of a walk
pub walk_edit : (most : ℕ) (records : List Device) (device : ℕ) (change : Device → Device) → ((own : Device) → (change own).upper ≡ own.upper)
    → (start : ℕ) → walk most (edit records device change) start ≡ walk most records start
unfolding walk
walk_edit zero R i g inv x = refl
walk_edit (suc n) R i g inv x =
    ap (λ o. x ∷ option_map_or (λ (u : DeviceId). walk n (edit R i g) u.0) o []) (edit_keeps (λ (r : Device). r.upper) g inv R i x)
    ∙ (λ k. x ∷ option_map_or (λ (u : DeviceId). walk_edit n R i g inv u.0 k) (record_of R x).upper [])

walk_on : (most : ℕ) (records : List Device) (device : ℕ) (upper : DeviceId) → (record_of records device).upper ≡ Some upper
    → walk (suc most) records device ≡ device ∷ walk most records upper.0
unfolding walk
walk_on n R d u e = ap (λ o. d ∷ option_map_or (λ (u : DeviceId). walk n R u.0) o []) e

walk_end : (most : ℕ) (records : List Device) (device : ℕ) → (record_of records device).upper ≡ None → walk (suc most) records device ≡ device ∷ []
unfolding walk
walk_end n R d e = ap (λ o. d ∷ option_map_or (λ (u : DeviceId). walk n R u.0) o []) e

no_more : (records : List Device) (given : Option DeviceId) → option_map_or (λ (upper : DeviceId). walk 0 records upper.0) given [] ≡ []
unfolding walk
no_more R None = refl
no_more R (Some u) = refl

walk_short : (records : List Device) (device : ℕ) → walk 1 records device ≡ device ∷ []
unfolding walk
walk_short R d = ap (λ t. d ∷ t) (no_more R (record_of R d).upper)

pub known_first : (Holds : ℕ → Type 0) (most : ℕ) (records : List Device) (device : ℕ) → 0 < most → AllByRecursion Holds (walk most records device)
    → Holds device
unfolding walk
known_first P zero R d h a = absurd (omega (arith, h))
known_first P (suc n) R d h a = a.0

pub known_rest : (Holds : ℕ → Type 0) (most fewer : ℕ) (records : List Device) (device : ℕ) (upper : DeviceId) → most ≡ suc fewer
    → (record_of records device).upper ≡ Some upper → AllByRecursion Holds (walk most records device)
    → AllByRecursion Holds (walk fewer records upper.0)
known_rest P n m R d u e up a = (subst (AllByRecursion P) (ap (λ k. walk k R d) e ∙ walk_on m R d u up) a).1

renumbered_cons : (bottom : DeviceId) (size : ℕ) (device : ℕ) (members : List ℕ) (records : List Device)
    → renumbered bottom size (device ∷ members) records ≡ renumbered bottom (size + 1) members (edit records device (at_place bottom size))
unfolding renumbered
renumbered_cons b n d ds R = refl

renumbered_one : (bottom : DeviceId) (size : ℕ) (device : ℕ) (records : List Device)
    → renumbered bottom size (device ∷ []) records ≡ edit records device (at_place bottom size)
unfolding renumbered
renumbered_one b n d R = refl

pub step_on : (bottom : DeviceId) (size most fewer : ℕ) (records changed : List Device) (device : ℕ) (upper : DeviceId) → most ≡ suc fewer
    → (record_of records device).upper ≡ Some upper → changed ≡ edit records device (at_place bottom size)
    → renumbered bottom (size + 1) (walk fewer changed upper.0) changed ≡ renumbered bottom size (walk most records device) records
step_on b n k m R M d u e up new =
    (λ i. renumbered b (n + 1) (walk m (new i) u.0) (new i))
    ∙ ap (λ t. renumbered b (n + 1) t (edit R d (at_place b n))) (walk_edit m R d (at_place b n) (λ r. refl) u.0)
    ∙ sym (renumbered_cons b n d (walk m R u.0) R)
    ∙ ap (λ t. renumbered b n t R) (sym (ap (λ k. walk k R d) e ∙ walk_on m R d u up))

pub step_end : (bottom : DeviceId) (size most fewer : ℕ) (records changed : List Device) (device : ℕ) → most ≡ suc fewer
    → (record_of records device).upper ≡ None → changed ≡ edit records device (at_place bottom size)
    → changed ≡ renumbered bottom size (walk most records device) records
step_end b n k m R M d e up new =
    new ∙ sym (renumbered_one b n d R) ∙ ap (λ t. renumbered b n t R) (sym (ap (λ k. walk k R d) e ∙ walk_end m R d up))

pub step_short : (bottom : DeviceId) (size most : ℕ) (records changed : List Device) (device : ℕ) → most ≡ 1
    → changed ≡ edit records device (at_place bottom size) → changed ≡ renumbered bottom size (walk most records device) records
step_short b n k R M d e new =
    new ∙ sym (renumbered_one b n d R) ∙ ap (λ t. renumbered b n t R) (sym (ap (λ k. walk k R d) e ∙ walk_short R d))

-- what is left of each record
pub renumbered_length : (bottom : DeviceId) (size : ℕ) (members : List ℕ) (records : List Device)
    → length (renumbered bottom size members records) ≡ length records
unfolding renumbered
renumbered_length b n [] R = refl
renumbered_length b n (d ∷ ds) R = renumbered_length b (n + 1) ds (edit R d (at_place b n)) ∙ edit_length R d (at_place b n)

pub renumbered_keeps : {Part : Type 0} (read : Device → Part)
    → ((own : Device) (bottom : DeviceId) (size : ℕ) → read (at_place bottom size own) ≡ read own)
    → (bottom : DeviceId) (size : ℕ) (members : List ℕ) (records : List Device) (other : ℕ)
    → read (record_of (renumbered bottom size members records) other) ≡ read (record_of records other)
unfolding renumbered
renumbered_keeps f inv b n [] R x = refl
renumbered_keeps f inv b n (d ∷ ds) R x =
    renumbered_keeps f inv b (n + 1) ds (edit R d (at_place b n)) x ∙ edit_keeps f (at_place b n) (λ r. inv r b n) R d x

pub renumbered_maps : {Part : Type 0} (read : Device → Part)
    → ((own : Device) (bottom : DeviceId) (size : ℕ) → read (at_place bottom size own) ≡ read own)
    → (bottom : DeviceId) (size : ℕ) (members : List ℕ) (records : List Device) → map read (renumbered bottom size members records) ≡ map read records
unfolding renumbered
renumbered_maps f inv b n [] R = refl
renumbered_maps f inv b n (d ∷ ds) R =
    renumbered_maps f inv b (n + 1) ds (edit R d (at_place b n)) ∙ edit_maps f (at_place b n) (λ r. inv r b n) R d

pub renumbered_out : (bottom : DeviceId) (size : ℕ) (members : List ℕ) (records : List Device) (other : ℕ) → IsOut members other
    → record_of (renumbered bottom size members records) other ≡ record_of records other
unfolding renumbered
renumbered_out b n [] R x out = refl
renumbered_out b n (d ∷ ds) R x out =
    let h0 : 0 < length (d ∷ ds) = omega arith in
    renumbered_out b (n + 1) ds (edit R d (at_place b n)) x (λ k h. out (suc k) (omega (arith, h)))
    ∙ edit_else R d x (at_place b n) (λ e. out 0 h0 (sym e))

pub renumbered_bottom : (bottom : DeviceId) (size : ℕ) (members : List ℕ) (records : List Device) (place : ℕ) → place < length members
    → member_at members place < length records → (record_of (renumbered bottom size members records) (member_at members place)).bottom ≡ bottom
unfolding renumbered
renumbered_bottom b n [] R k h lt = absurd (omega (arith, h))
renumbered_bottom b n (d ∷ ds) R (suc k) h lt =
    renumbered_bottom b (n + 1) ds (edit R d (at_place b n)) k (omega (arith, h)) (omega (arith, lt, edit_length R d (at_place b n)))
renumbered_bottom b n (d ∷ ds) R zero h lt =
    let M = edit R d (at_place b n) in
    elim (find_place ds d) as (λ _. (record_of (renumbered b (n + 1) ds M) d).bottom ≡ b) [
      | inl w ↦
          let l : member_at ds w.0 < length M = subst (λ x. x < length M) (sym w.2) (omega (arith, lt, edit_length R d (at_place b n))) in
          ap (λ x. (record_of (renumbered b (n + 1) ds M) x).bottom) (sym w.2) ∙ renumbered_bottom b (n + 1) ds M w.0 w.1 l
      | inr out ↦
          ap (λ (r : Device). r.bottom) (renumbered_out b (n + 1) ds M d out ∙ edit_here R d (at_place b n) lt)
    ]

pub renumbered_size : (bottom : DeviceId) (size : ℕ) (members : List ℕ) (records : List Device)
    → ((earlier place : ℕ) → earlier < length members → place < length members → member_at members earlier ≡ member_at members place → earlier ≡ place)
    → (place : ℕ) → place < length members → member_at members place < length records
    → (record_of (renumbered bottom size members records) (member_at members place)).size ≡ size + place
unfolding renumbered
renumbered_size b n [] R apart k h lt = absurd (omega (arith, h))
renumbered_size b n (d ∷ ds) R apart (suc k) h lt =
    let e : (n + 1) + k ≡ n + suc k = omega arith in
    renumbered_size b (n + 1) ds (edit R d (at_place b n))
    (λ i m hi hm same. let q = apart (suc i) (suc m) (omega (arith, hi)) (omega (arith, hm)) same in omega (arith, q))
    k (omega (arith, h)) (omega (arith, lt, edit_length R d (at_place b n)))
    ∙ e
renumbered_size b n (d ∷ ds) R apart zero h lt =
    let M = edit R d (at_place b n) in
    let out : IsOut ds d = λ k hk same. let q = apart (suc k) 0 (omega (arith, hk)) h same in absurd (omega (arith, q)) in
    let e : n ≡ n + 0 = omega arith in
    ap (λ (r : Device). r.size) (renumbered_out b (n + 1) ds M d out ∙ edit_here R d (at_place b n) lt) ∙ e
