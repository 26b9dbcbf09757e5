-- What create and new leave: the record of a new device, alone in its stack, and no records.
use Rattle.std.proofs.Common.{◌≡◌, ℕ, ◌+◌, ◌<◌, List, [], ◌∷◌, ◌++◌, length, map, refl, sym, ◌∙◌, ap, subst, arith, None, inl, inr}
use Rattle.std.proofs.lemmas.Bool.{cases_lt}
use Rattle.std.proofs.lemmas.List.{length-map, map_push, get_or_append_left, get_or_at, length_push}
use Rattle.irp_types.specs.Stacks.{DevicesValue}
use Rattle.irp_types.specs.declared.names.DriverId.{DriverId}
use Rattle.irp_types.specs.declared.names.LockNo.{LockNo}
use Rattle.irp_stack.specs.declared.device.Device.{Device}
use Rattle.irp_stack.specs.Records.{record_of, member_at, list_of, blank, id, made, facts_in, value_of, lists_of, DescribesStack, IsPlaced, DescribesStacks, IsTidy}
use Rattle.irp_stack.proofs.Regrouped.{placed_in, placed_kept}
use Rattle.irp_stack.proofs.Walks.{lists_are}
use Rattle.irp_stack.proofs.Tidying.{tidy, value_is}

-- the record of a new device describes its stack
line_made : (records : List Device) (own : Device) (device : ℕ) → device ≡ length records → own.size ≡ 1 → own.lower ≡ None → own.upper ≡ None
    → own.bottom ≡ id device → own.top ≡ id device → DescribesStack (records ++ own ∷ []) (device ∷ [])
line_made R r n e size lower upper bottom top =
    let at : record_of (R ++ r ∷ []) n ≡ r = get_or_at R r [] blank n (sym e) in
    let z : (k : ℕ) → k < 1 → 0 ≡ k = λ k h. omega (arith, h) in
    record {
      some = omega arith;
      few = omega arith;
      known = λ k h. subst (λ k. member_at (n ∷ []) k < length (R ++ r ∷ [])) (z k h) (omega (arith, e, length_push R r));
      size = λ k h. subst (λ k. (record_of (R ++ r ∷ []) (member_at (n ∷ []) k)).size ≡ k + 1) (z k h) (ap (λ (x : Device). x.size) at ∙ size);
      first = ap (λ (x : Device). x.lower) at ∙ lower;
      lower = λ k h. absurd (omega (arith, h));
      upper = λ k h. absurd (omega (arith, h));
      last = ap (λ (x : Device). x.upper) at ∙ upper;
      bottom = λ k h. subst (λ k. (record_of (R ++ r ∷ []) (member_at (n ∷ []) k)).bottom ≡ id n) (z k h) (ap (λ (x : Device). x.bottom) at ∙ bottom);
      top = ap (λ (x : Device). x.top) at ∙ top;
      live = λ k m h. absurd (omega (arith, m));
    }

tied_made : (records : List Device) (stacks : List (List ℕ)) (own : Device) → DescribesStacks records stacks → own.size ≡ 1 → own.lower ≡ None → own.upper ≡ None
    → own.bottom ≡ id (length records) → own.top ≡ id (length records) → DescribesStacks (records ++ own ∷ []) (stacks ++ (length records ∷ []) ∷ [])
tied_made R S r w size lower upper bottom top =
    let n = length R in
    let M = R ++ r ∷ [] in
    let T = S ++ (n ∷ []) ∷ [] in
    let line = line_made R r n refl size lower upper bottom top in
    let here : list_of T n ≡ n ∷ [] = get_or_at S (n ∷ []) [] [] n w.counted in
    record {
      counted = length_push S (n ∷ []) ∙ ap (λ k. k + 1) w.counted ∙ sym (length_push R r);
      placed = λ e lt.
          elim (cases_lt e n) as (λ _. IsPlaced M T e) [
            | inl old ↦
                let p = w.placed e old in
                placed_kept R M S T e p (omega (arith, length_push R r))
                (λ k h. get_or_append_left R (r ∷ []) blank (member_at (list_of S e) k) (p.line.known k h))
                (λ k h.
                let l : member_at (list_of S e) k < length S = omega (arith, p.line.known k h, w.counted) in
                get_or_append_left S ((n ∷ []) ∷ []) [] (member_at (list_of S e) k) l)
            | inr new ↦
                let z : e ≡ n = omega (arith, new, lt, length_push R r) in
                placed_in M T (n ∷ []) e line (0, omega arith, sym z)
                (λ k h. let q : 0 ≡ k = omega (arith, h) in subst (λ k. list_of T (member_at (n ∷ []) k) ≡ n ∷ []) q here)
          ];
    }

pub record IsCreated (records : List Device) (devices : DevicesValue) (own : Device) : Type 0 where
  pub value : value_of (records ++ own ∷ []) ≡ record { facts = devices.facts ++ facts_in own ∷ []; stacks = devices.stacks ++ (length devices.facts ∷ []) ∷ [] }
  pub tidied : IsTidy (records ++ own ∷ [])
  pub long : length (records ++ own ∷ []) ≡ length records + 1
  pub count : length devices.facts ≡ length records

pub out_made : (records : List Device) (devices : DevicesValue) (driver : DriverId) (lock : LockNo) (device : ℕ) → device ≡ length records
    → value_of records ≡ devices → IsTidy records → IsCreated records devices (made driver lock device)
out_made R v driver lock n e eq w =
    let r = made driver lock n in
    let t = tied_made R (lists_of R) r w refl refl refl (ap id e) (ap id e) in
    let count : length R ≡ length (map facts_in R) = sym (length-map R facts_in) in
    subst (λ v. IsCreated R v r) eq (record {
      value = (λ i. record { facts = map_push facts_in R r i; stacks = lists_are (R ++ r ∷ []) (lists_of R ++ (length R ∷ []) ∷ []) t i })
          ∙ ap (λ k. record { facts = map facts_in R ++ facts_in r ∷ []; stacks = lists_of R ++ (k ∷ []) ∷ [] }) count;
      tidied = tidy (R ++ r ∷ []) (lists_of R ++ (length R ∷ []) ∷ []) t;
      long = length_push R r;
      count = length-map R facts_in;
    })

-- nothing was created yet
pub tidy_none : IsTidy []
tidy_none = tidy [] [] (record { counted = refl; placed = λ d h. absurd (omega (arith, h)) })

pub value_none : value_of [] ≡ record { facts = []; stacks = [] }
value_none = value_is [] [] [] (record { counted = refl; placed = λ d h. absurd (omega (arith, h)) }) refl
