-- What delete answers and leaves, from what it reads of the records.
use Rattle.std.proofs.Common.{◌≡◌, ℕ, ◌+◌, ◌-◌, ◌<◌, ◌≤◌, true, false, List, length, set, get_or, map, refl, sym, ◌∙◌, ap, subst, arith, Some, None, inl, inr}
use Rattle.std.proofs.lemmas.List.{get_or-map, map-set}
use Rattle.irp_types.specs.Stacks.{DevicesValue, DeviceFacts, after_delete, no_facts, delete_checks}
use Rattle.irp_types.specs.Checks.{first_failing}
use Rattle.irp_types.specs.declared.refusal.Refusal.TheVariants.{StillAttached}
use Rattle.irp_stack.specs.declared.device.Device.{Device}
use Rattle.irp_stack.specs.Records.{record_of, member_at, list_of, names_neighbour, blank, edit, dead, facts_in, value_of, lists_of, IsLiveRecord, DescribesStack, IsPlaced, DescribesStacks, IsTidy}
use Rattle.irp_stack.proofs.Regrouped.{find_place, edit_length, edit_else, edit_keeps, placed_in, placed_kept}
use Rattle.irp_stack.proofs.Walks.{lists_are}
use Rattle.irp_stack.proofs.Refusing.{delete_still, delete_fine}
use Rattle.irp_stack.proofs.Tidying.{tidy, found_alive, neighboured, lone_at}

pub out_kept : {records : List Device} {devices : DevicesValue} {device : ℕ} {own : Device} → value_of records ≡ devices → IsTidy records
    → IsLiveRecord records device own → names_neighbour own ≡ true → first_failing (delete_checks devices device) ≡ Some StillAttached
out_kept {records = R} {devices = v} {device = d} {own} eq w f some =
    subst (λ v. first_failing (delete_checks v d) ≡ Some StillAttached) eq
    (delete_still (value_of R) d (found_alive R d own f) (neighboured R w d own f some))

line_dead : (records : List Device) (device : ℕ) (stack : List ℕ) → DescribesStack records stack → length stack ≡ 1 → DescribesStack (edit records device dead) stack
line_dead R d s l one =
    record {
      some = l.some;
      few = l.few;
      known = λ k h. omega (arith, l.known k h, edit_length R d dead);
      size = λ k h. edit_keeps (λ (r : Device). r.size) dead (λ r. refl) R d (member_at s k) ∙ l.size k h;
      first = edit_keeps (λ (r : Device). r.lower) dead (λ r. refl) R d (member_at s 0) ∙ l.first;
      lower = λ k h. edit_keeps (λ (r : Device). r.lower) dead (λ r. refl) R d (member_at s (k + 1)) ∙ l.lower k h;
      upper = λ k h. edit_keeps (λ (r : Device). r.upper) dead (λ r. refl) R d (member_at s k) ∙ l.upper k h;
      last = edit_keeps (λ (r : Device). r.upper) dead (λ r. refl) R d (member_at s (length s - 1)) ∙ l.last;
      bottom = λ k h. edit_keeps (λ (r : Device). r.bottom) dead (λ r. refl) R d (member_at s k) ∙ l.bottom k h;
      top = edit_keeps (λ (r : Device). r.top) dead (λ r. refl) R d (member_at s 0) ∙ l.top;
      live = λ k m h. absurd (omega (arith, m, one));
    }

tied_dead : (records : List Device) (stacks : List (List ℕ)) (device : ℕ) → DescribesStacks records stacks → device < length records
    → length (list_of stacks device) ≡ 1 → DescribesStacks (edit records device dead) stacks
tied_dead R S d w hd one =
    let M = edit R d dead in
    let long : length M ≡ length R = edit_length R d dead in
    record {
      counted = w.counted ∙ sym long;
      placed = λ e lt.
          let lt1 : e < length R = omega (arith, lt, long) in
          let p = w.placed e lt1 in
          let s = list_of S e in
          elim (find_place s d) as (λ _. IsPlaced M S e) [
            | inl i ↦
                let f : list_of S d ≡ s = ap (λ n. list_of S n) (sym i.2) ∙ p.same i.0 i.1 in
                let l1 : length s ≡ 1 = ap length (sym f) ∙ one in
                let at : (record_of R e).size - 1 < length s = omega (arith, p.within, p.some) in
                placed_in M S s e (line_dead R d s p.line l1) ((record_of R e).size - 1, at, p.own) p.same
            | inr out ↦
                placed_kept R M S S e p (omega (arith, long)) (λ k h. edit_else R d (member_at s k) dead (λ q. out k h q)) (λ k h. refl)
          ];
    }

abbrev gone : DeviceFacts → DeviceFacts
gone facts = record facts { live = false }

pub record IsDeleted (records : List Device) (devices : DevicesValue) (device : ℕ) : Type 0 where
  pub fine : first_failing (delete_checks devices device) ≡ None
  pub value : value_of (edit records device dead) ≡ after_delete devices device
  pub tidied : IsTidy (edit records device dead)
  pub long : length (edit records device dead) ≡ length records

pub out_gone : {records : List Device} {devices : DevicesValue} {device : ℕ} {own : Device} → value_of records ≡ devices → IsTidy records
    → IsLiveRecord records device own → names_neighbour own ≡ false → IsDeleted records devices device
out_gone {records = R} {devices = v} {device = d} {own} eq w f lone =
    let one = lone_at R w d own f lone in
    let few : length (list_of (lists_of R) d) ≤ 1 = omega (arith, one) in
    let t = tied_dead R (lists_of R) d w f.known one in
    let facts : map facts_in (edit R d dead) ≡ set (map facts_in R) d (gone (get_or (map facts_in R) d no_facts)) =
    map-set facts_in R d (dead (record_of R d)) ∙ ap (λ x. set (map facts_in R) d (gone x)) (sym (get_or-map facts_in R d blank no_facts f.known)) in
    subst (λ v. IsDeleted R v d) eq (record {
      fine = delete_fine (value_of R) d (found_alive R d own f) few;
      value = λ i. record { facts = facts i; stacks = lists_are (edit R d dead) (lists_of R) t i };
      tidied = tidy (edit R d dead) (lists_of R) t;
      long = edit_length R d dead;
    })
