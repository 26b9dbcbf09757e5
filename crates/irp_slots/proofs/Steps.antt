-- Each step keeps the rule.
use Rattle.std.proofs.Common.{◌≡◌, ◌⊎◌, inl, inr, ℕ, ◌+◌, ◌*◌, ◌/◌, ◌%◌, ◌<◌, ◌≢◌, Bool, true, false, not, ◌&&◌, ◌||◌, eqb, eq-eqb, ne_eqb, List, [], ◌∷◌, length, get_or, set, max, bit_or, if◌then◌else◌, refl, sym, ap, ◌∙◌, subst, arith, length-set, get_or-set_same, get_or-set_other}
use Rattle.std.proofs.lemmas.Bool.{false≢true}
use Rattle.std.proofs.lemmas.List.{set-get_or}
use Rattle.std.proofs.lemmas.List.Elements.{All-set}
use Rattle.std.specs.Int.Bits.{or_step, or_zero_r}
use mathlib.Core.Logic.{dite}
use mathlib.Core.Option.{none, some}
use native.Mathlib.Decide.{ℕ_discrete}
use lib.ListN.{get_elem?}
use Rattle.atomic_table.specs.Table.{State, Me, step, keeps, Allows}
use Rattle.irp_slots.specs.declared.views.Stage.{Stage}
use Rattle.irp_slots.specs.declared.views.Stage.TheVariants.{Idle, Published, Standing, Done}
use Rattle.irp_slots.specs.declared.views.Owning.{Owning}
use Rattle.irp_slots.specs.declared.views.Asking.{Asking}
use Rattle.irp_slots.specs.declared.views.View.{View}
use Rattle.irp_slots.specs.declared.views.View.TheVariants.{Owner, Canceller}
use Rattle.irp_slots.specs.declared.views.Parties.{Parties}
use Rattle.irp_slots.specs.Core.{total, one_if, flag, times, times_of, is_begun, is_resting, is_standing, may_take_back, OwnerInOrder, CancellerInOrder, IsInOrder, owns, published, taken, resting, standing, flagged, ended, found_flagged, canceller_count, Kept, out_of, publishes, owner_published, checks, owning_checked, owner_checked, takes_back, owner_done, flags, slot_flagged, takes_out, slot_ended, owning_of}
use Rattle.irp_slots.proofs.Totals.{total_set, same_total, part_of_total, rest_or_stand, published_view, alone, all_at, ended_flagged}

abbrev pub St : Type 0
St = State (Unit {0}) View

same_slot : (a : ℕ) → one_if (eqb a a) ≡ 1
same_slot a = ap one_if (eq-eqb a a refl)

is_false : (b : Bool) → (b ≡ true → b ≡ false) → b ≡ false
is_false true f = f refl
is_false false f = refl

-- an owner that may take its use out has begun, and has read the flag
looked_if : (stage : Stage) (o : Owning) → OwnerInOrder stage o → (is_standing stage || o.found_set) ≡ true → (o.found_set ≡ not o.stood) × (is_begun stage ≡ true)
looked_if Idle o order e = absurd (false≢true (sym (ap (λ (p : Owning). p.found_set) order) ∙ e))
looked_if Published o order e = (e ∙ sym (ap not order.0), refl)
looked_if Standing o order e = (order.1 ∙ sym (ap not order.0), refl)
looked_if Done o order e = (order, refl)

-- an idle owner finds nothing in its slot
publish_finds_nothing : (key : Parties) (s : St) → Kept key s → (id : ℕ) (o : Owning) → o.stage ≡ Idle → get_elem? s.views id ≡ some (Owner o) → o.slot < key.slots → get_or s.words (2 * o.slot + 1) 0 ≡ 0
publish_finds_nothing key s r id o idle at inside =
    let rested : resting o.slot (Owner o) ≡ 1 = ap (λ (z : Stage). one_if (is_resting z && eqb o.slot o.slot)) idle ∙ same_slot o.slot in
    let some_rest = part_of_total (resting o.slot) s.views id (Owner o) at in
    r.rests o.slot inside (omega arith)

-- an idle owner puts its number into the content
module _ (key : Parties) (s : St) (r : Kept key s) (id : ℕ) (o : Owning) (idle : o.stage ≡ Idle) (at : get_elem? s.views id ≡ some (Owner o)) (inside : o.slot < key.slots) (use_no : ℕ) where
  abbrev after_publish : Owning
  after_publish = record o { stage = Published; published = use_no; stood = false; found_set = false }

  abbrev v1 : View
  v1 = Owner o

  abbrev w1 : View
  w1 = Owner after_publish

  pub publish_keeps : Kept key (record { words = set s.words (2 * o.slot + 1) use_no; homes = s.homes; views = set s.views id w1 })
  publish_keeps =
      let rested : resting o.slot v1 ≡ 1 = ap (λ (z : Stage). one_if (is_resting z && eqb o.slot o.slot)) idle ∙ same_slot o.slot in
      let empty = publish_finds_nothing key s r id o idle at inside in
      let fresh : o.taken ≡ [] = ap (λ (p : Owning). p.taken) (subst (λ (z : Stage). OwnerInOrder z o) idle (all_at IsInOrder s.views id v1 at r.in_order)) in
      let wide = r.wide in
      let room : 2 * o.slot + 1 < length s.words = omega arith in
      let other_word : (i : ℕ) → i ≢ 2 * o.slot + 1 → get_or (set s.words (2 * o.slot + 1) use_no) i 0 ≡ get_or s.words i 0 = λ i ne. get_or-set_other s.words (2 * o.slot + 1) i use_no 0 ne in
      let this_word : get_or (set s.words (2 * o.slot + 1) use_no) (2 * o.slot + 1) 0 ≡ use_no = get_or-set_same s.words (2 * o.slot + 1) use_no 0 room in
      record {
        wide = length-set s.words (2 * o.slot + 1) use_no ∙ r.wide;
        one_owner = λ k less. let t = same_total (owns k) s.views id v1 w1 at refl in let u = r.one_owner k less in omega arith;
        places = λ k number less some_use.
            let was = r.places k number less some_use in
            let t = same_total (taken k number) s.views id v1 w1 at refl in
            let p = total_set (published k number) s.views id v1 w1 at in
            let unbegun : published k number v1 ≡ 0 = ap (λ (z : Stage). one_if (is_begun z && (eqb o.slot k && eqb o.published number))) idle in
            dite (ℕ_discrete k o.slot)
            (λ e.
            let now : get_or (set s.words (2 * o.slot + 1) use_no) (2 * k + 1) 0 ≡ use_no = ap (λ (z : ℕ). get_or (set s.words (2 * o.slot + 1) use_no) (2 * z + 1) 0) e ∙ this_word in
            let before : get_or s.words (2 * k + 1) 0 ≡ 0 = ap (λ (z : ℕ). get_or s.words (2 * z + 1) 0) e ∙ empty in
            let c : one_if (eqb (get_or (set s.words (2 * o.slot + 1) use_no) (2 * k + 1) 0) number) ≡ one_if (eqb use_no number) = ap (λ (z : ℕ). one_if (eqb z number)) now in
            let d : one_if (eqb (get_or s.words (2 * k + 1) 0) number) ≡ 0 = ap (λ (z : ℕ). one_if (eqb z number)) before ∙ ap one_if (ne_eqb 0 number (λ z. absurd (omega arith))) in
            let q : published k number w1 ≡ one_if (eqb use_no number) = ap (λ (b : Bool). one_if (b && eqb use_no number)) (eq-eqb o.slot k (sym e)) in
            omega arith)
            (λ ne.
            let c : one_if (eqb (get_or (set s.words (2 * o.slot + 1) use_no) (2 * k + 1) 0) number) ≡ one_if (eqb (get_or s.words (2 * k + 1) 0) number) = ap (λ (z : ℕ). one_if (eqb z number)) (other_word (2 * k + 1) (λ e. ne (omega arith))) in
            let q : published k number w1 ≡ 0 = ap (λ (b : Bool). one_if (b && eqb use_no number)) (ne_eqb o.slot k (λ e. ne (sym e))) in
            omega arith);
        rests = λ k less some_rests.
            let t = total_set (resting k) s.views id v1 w1 at in
            let one = r.one_owner k less in
            let parts = rest_or_stand k s.views in
            dite (ℕ_discrete k o.slot)
            (λ e. let h : resting k v1 ≡ 1 = ap (λ (z : ℕ). resting z v1) e ∙ rested in absurd (omega arith))
            (λ ne. let c = other_word (2 * k + 1) (λ e. ne (omega arith)) in let was = r.rests k less (omega arith) in omega arith);
        flag_set = λ k less some_flag.
            let t = same_total (flagged k) s.views id v1 w1 at refl in
            let c = other_word (2 * k) (λ e. absurd (omega arith)) in
            let was = r.flag_set k less (omega arith) in
            subst (λ (z : ℕ). z % 2 ≡ 1) (sym c) was;
        flag_only = λ k less odd.
            let t = same_total (flagged k) s.views id v1 w1 at refl in
            let was = r.flag_only k less (subst (λ (z : ℕ). z % 2 ≡ 1) (other_word (2 * k) (λ e. absurd (omega arith))) odd) in omega arith;
        in_order = All-set IsInOrder s.views id w1 (refl, fresh) r.in_order;
        found = λ k less some_found.
            let t = total_set (found_flagged k) s.views id v1 w1 at in
            subst (λ (z : ℕ). z % 2 ≡ 1) (sym (other_word (2 * k) (λ e. absurd (omega arith)))) (r.found k less (omega arith));
        stands = λ k less some_stand some_end.
            let t : total (standing k) (set s.views id w1) + standing k v1 ≡ total (standing k) s.views + standing k w1 = total_set (standing k) s.views id v1 w1 at in
            let u = same_total (ended k) s.views id v1 w1 at refl in
            let one = r.one_owner k less in
            let parts = rest_or_stand k s.views in
            let some_rest_k = part_of_total (resting k) s.views id v1 at in
            dite (ℕ_discrete k o.slot)
            (λ e. let h : resting k v1 ≡ 1 = ap (λ (z : ℕ). resting z v1) e ∙ rested in absurd (omega arith))
            (λ ne. let c = other_word (2 * k + 1) (λ e. ne (omega arith)) in let was = r.stands k less (omega arith) (omega arith) in omega arith);
        all_cancellers = same_total canceller_count s.views id v1 w1 at refl ∙ r.all_cancellers;
        few_slots = r.few_slots;
        few_cancellers = r.few_cancellers;
      }

flag_here : (xs : List Bool) (i : ℕ) → i < length xs → one_if (flag (set xs i true) i) ≡ 1
flag_here xs i inside = ap one_if (get_or-set_same xs i true false inside)

flag_other : (xs : List Bool) (i k : ℕ) → k ≢ i → one_if (flag (set xs i true) k) ≡ one_if (flag xs k)
flag_other xs i k ne = ap one_if (get_or-set_other xs i k true false ne)

stays_set : (xs : List Bool) (i k : ℕ) → i < length xs → flag xs k ≡ true → flag (set xs i true) k ≡ true
stays_set xs i k inside e = dite (ℕ_discrete k i)
    (λ same. ap (flag (set xs i true)) same ∙ get_or-set_same xs i true false inside)
    (λ ne. get_or-set_other xs i k true false ne ∙ e)

or_one : (n : ℕ) → bit_or n 1 ≡ n / 2 * 2 + 1
or_one n = let s : bit_or n 1 ≡ bit_or (n / 2) 0 * 2 + max (n % 2) 1 = or_step n 1 in
    let t : bit_or (n / 2) 0 * 2 ≡ n / 2 * 2 = ap (λ (q : ℕ). q * 2) (or_zero_r (n / 2)) in
    omega arith

-- an owner that has published finds the flag clear
module _ (key : Parties) (s : St) (r : Kept key s) (id : ℕ) (o : Owning) (posted : o.stage ≡ Published) (at : get_elem? s.views id ≡ some (Owner o)) (inside : o.slot < key.slots)
    (clear : get_or s.words (2 * o.slot) 0 % 2 ≡ 0) where
  abbrev v2 : View
  v2 = Owner o

  abbrev w2 : View
  w2 = Owner (record o { stage = Standing; stood = true })

  before : OwnerInOrder Published o
  before = subst (λ (z : Stage). OwnerInOrder z o) posted (all_at IsInOrder s.views id v2 at r.in_order)

  not_found : o.found_set ≡ false
  not_found = is_false o.found_set (λ e.
      let mine : found_flagged o.slot v2 ≡ 1 = ap (λ (b : Bool). one_if (b && eqb o.slot o.slot)) e ∙ same_slot o.slot in
      let part = part_of_total (found_flagged o.slot) s.views id v2 at in
      let odd = r.found o.slot inside (omega arith) in
      absurd (omega arith))

  check_kept : Kept key (record { words = s.words; homes = s.homes; views = set s.views id w2 })
  check_kept = record {
    wide = r.wide;
    one_owner = λ k less. let t = same_total (owns k) s.views id v2 w2 at refl in let u = r.one_owner k less in omega arith;
    places = λ k number less some_use.
        let was = r.places k number less some_use in
        let t = same_total (taken k number) s.views id v2 w2 at refl in
        let p = same_total (published k number) s.views id v2 w2 at (ap (λ (z : Stage). one_if (is_begun z && (eqb o.slot k && eqb o.published number))) (sym posted)) in
        omega arith;
    rests = λ k less some_rests. let t : total (resting k) (set s.views id w2) + resting k v2 ≡ total (resting k) s.views + resting k w2 = total_set (resting k) s.views id v2 w2 at in
        r.rests k less (omega arith);
    flag_set = λ k less some_flag. let t = same_total (flagged k) s.views id v2 w2 at refl in r.flag_set k less (omega arith);
    flag_only = λ k less odd. let t = same_total (flagged k) s.views id v2 w2 at refl in let was = r.flag_only k less odd in omega arith;
    in_order = All-set IsInOrder s.views id w2 (refl, not_found, before.1) r.in_order;
    found = λ k less some_found. let t = same_total (found_flagged k) s.views id v2 w2 at refl in r.found k less (omega arith);
    stands = λ k less some_stand some_end.
        let t = total_set (standing k) s.views id v2 w2 at in
        let u = same_total (ended k) s.views id v2 w2 at refl in
        dite (ℕ_discrete k o.slot)
        (λ e.
        let le = ended_flagged k s.views r.in_order in
        let odd = r.flag_set k less (omega arith) in
        let even : get_or s.words (2 * k) 0 % 2 ≡ 0 = ap (λ (z : ℕ). get_or s.words (2 * z) 0 % 2) e ∙ clear in
        absurd (omega arith))
        (λ ne. let q : standing k w2 ≡ 0 = ap one_if (ne_eqb o.slot k (λ e. ne (sym e))) in r.stands k less (omega arith) (omega arith));
    all_cancellers = same_total canceller_count s.views id v2 w2 at refl ∙ r.all_cancellers;
    few_slots = r.few_slots;
    few_cancellers = r.few_cancellers;
  }

  pub check_keeps : Kept key (record { words = set s.words (2 * o.slot) (get_or s.words (2 * o.slot) 0); homes = s.homes; views = set s.views id w2 })
  check_keeps = subst (λ (ws : List ℕ). Kept key (record { words = ws; homes = s.homes; views = set s.views id w2 })) (sym (set-get_or s.words (2 * o.slot) 0)) check_kept

-- an owner that has published finds the flag set
module _ (key : Parties) (s : St) (r : Kept key s) (id : ℕ) (o : Owning) (posted : o.stage ≡ Published) (at : get_elem? s.views id ≡ some (Owner o)) (odd : get_or s.words (2 * o.slot) 0 % 2 ≡ 1) where
  abbrev v_set : View
  v_set = Owner o

  abbrev w_set : View
  w_set = Owner (record o { found_set = true })

  unspent : OwnerInOrder Published o
  unspent = subst (λ (z : Stage). OwnerInOrder z o) posted (all_at IsInOrder s.views id v_set at r.in_order)

  found_kept : Kept key (record { words = s.words; homes = s.homes; views = set s.views id w_set })
  found_kept = record {
    wide = r.wide;
    one_owner = λ k less. let t = same_total (owns k) s.views id v_set w_set at refl in let u = r.one_owner k less in omega arith;
    places = λ k number less some_use.
        let was = r.places k number less some_use in
        let t = same_total (taken k number) s.views id v_set w_set at refl in
        let p = same_total (published k number) s.views id v_set w_set at refl in
        omega arith;
    rests = λ k less some_rests. let t = same_total (resting k) s.views id v_set w_set at refl in r.rests k less (omega arith);
    flag_set = λ k less some_flag. let t = same_total (flagged k) s.views id v_set w_set at refl in r.flag_set k less (omega arith);
    flag_only = λ k less odd. let t = same_total (flagged k) s.views id v_set w_set at refl in let was = r.flag_only k less odd in omega arith;
    in_order = All-set IsInOrder s.views id w_set (subst (λ (z : Stage). OwnerInOrder z (record o { found_set = true })) (sym posted) unspent) r.in_order;
    found = λ k less some_found.
        let t = total_set (found_flagged k) s.views id v_set w_set at in
        dite (ℕ_discrete k o.slot)
        (λ e. subst (λ (z : ℕ). get_or s.words (2 * z) 0 % 2 ≡ 1) (sym e) odd)
        (λ ne. let q : found_flagged k w_set ≡ 0 = ap one_if (ne_eqb o.slot k (λ e. ne (sym e))) in r.found k less (omega arith));
    stands = λ k less some_stand some_end.
        let t = same_total (standing k) s.views id v_set w_set at refl in
        let u = same_total (ended k) s.views id v_set w_set at refl in
        r.stands k less (omega arith) (omega arith);
    all_cancellers = same_total canceller_count s.views id v_set w_set at refl ∙ r.all_cancellers;
    few_slots = r.few_slots;
    few_cancellers = r.few_cancellers;
  }

  pub found_keeps : Kept key (record { words = set s.words (2 * o.slot) (get_or s.words (2 * o.slot) 0); homes = s.homes; views = set s.views id w_set })
  found_keeps = subst (λ (ws : List ℕ). Kept key (record { words = ws; homes = s.homes; views = set s.views id w_set })) (sym (set-get_or s.words (2 * o.slot) 0)) found_kept

out_times : (found number : ℕ) (xs : List ℕ) → 0 < number → times number (out_of found xs) ≡ times number xs + one_if (eqb found number)
out_times found number xs some_use = dite (ℕ_discrete found 0)
    (λ e.
    let a : times number (out_of found xs) ≡ times number xs = ap (λ (b : Bool). times number (if b then xs else found ∷ xs)) (eq-eqb found 0 e) in
    let b : one_if (eqb found number) ≡ 0 = ap one_if (ne_eqb found number (λ z. absurd (omega arith))) in
    omega arith)
    (λ ne.
    let a : times number (out_of found xs) ≡ one_if (eqb found number) + times number xs = ap (λ (b : Bool). times number (if b then xs else found ∷ xs)) (ne_eqb found 0 ne) in
    omega arith)

-- an owner that has published takes out what is there
module _ (key : Parties) (s : St) (r : Kept key s) (id : ℕ) (o : Owning) (may : may_take_back o ≡ true) (at : get_elem? s.views id ≡ some (Owner o)) (inside : o.slot < key.slots) where
  abbrev found3 : ℕ
  found3 = get_or s.words (2 * o.slot + 1) 0

  abbrev v3 : View
  v3 = Owner o

  abbrev w3 : View
  w3 = Owner (record o { stage = Done; taken = out_of found3 o.taken })

  looked : (o.found_set ≡ not o.stood) × (is_begun o.stage ≡ true)
  looked = looked_if o.stage o (all_at IsInOrder s.views id v3 at r.in_order) may

  pub take_back_keeps : Kept key (record { words = set s.words (2 * o.slot + 1) 0; homes = s.homes; views = set s.views id w3 })
  take_back_keeps =
      let wide = r.wide in
      let room : 2 * o.slot + 1 < length s.words = omega arith in
      let other_word : (i : ℕ) → i ≢ 2 * o.slot + 1 → get_or (set s.words (2 * o.slot + 1) 0) i 0 ≡ get_or s.words i 0 = λ i ne. get_or-set_other s.words (2 * o.slot + 1) i 0 0 ne in
      let this_word : get_or (set s.words (2 * o.slot + 1) 0) (2 * o.slot + 1) 0 ≡ 0 = get_or-set_same s.words (2 * o.slot + 1) 0 0 room in
      record {
        wide = length-set s.words (2 * o.slot + 1) 0 ∙ r.wide;
        one_owner = λ k less. let t = same_total (owns k) s.views id v3 w3 at refl in let u = r.one_owner k less in omega arith;
        places = λ k number less some_use.
            let was = r.places k number less some_use in
            let t = total_set (taken k number) s.views id v3 w3 at in
            let p = same_total (published k number) s.views id v3 w3 at (ap (λ (b : Bool). one_if (b && (eqb o.slot k && eqb o.published number))) (sym looked.1)) in
            dite (ℕ_discrete k o.slot)
            (λ e.
            let c : one_if (eqb (get_or (set s.words (2 * o.slot + 1) 0) (2 * k + 1) 0) number) ≡ 0 =
            ap (λ (z : ℕ). one_if (eqb z number)) (ap (λ (z : ℕ). get_or (set s.words (2 * o.slot + 1) 0) (2 * z + 1) 0) e ∙ this_word) ∙ ap one_if (ne_eqb 0 number (λ z. absurd (omega arith))) in
            let d : one_if (eqb (get_or s.words (2 * k + 1) 0) number) ≡ one_if (eqb found3 number) = ap (λ (z : ℕ). one_if (eqb (get_or s.words (2 * z + 1) 0) number)) e in
            let here : eqb o.slot k ≡ true = eq-eqb o.slot k (sym e) in
            let tv : taken k number v3 ≡ times number o.taken = ap (λ (b : Bool). if b then times number o.taken else 0) here in
            let tw : taken k number w3 ≡ times number (out_of found3 o.taken) = ap (λ (b : Bool). if b then times number (out_of found3 o.taken) else 0) here in
            let q = out_times found3 number o.taken some_use in
            omega arith)
            (λ ne.
            let c : one_if (eqb (get_or (set s.words (2 * o.slot + 1) 0) (2 * k + 1) 0) number) ≡ one_if (eqb (get_or s.words (2 * k + 1) 0) number) = ap (λ (z : ℕ). one_if (eqb z number)) (other_word (2 * k + 1) (λ e. ne (omega arith))) in
            let away : eqb o.slot k ≡ false = ne_eqb o.slot k (λ e. ne (sym e)) in
            let tv : taken k number v3 ≡ 0 = ap (λ (b : Bool). if b then times number o.taken else 0) away in
            let tw : taken k number w3 ≡ 0 = ap (λ (b : Bool). if b then times number (out_of found3 o.taken) else 0) away in
            omega arith);
        rests = λ k less some_rests.
            let t = total_set (resting k) s.views id v3 w3 at in
            dite (ℕ_discrete k o.slot)
            (λ e. ap (λ (z : ℕ). get_or (set s.words (2 * o.slot + 1) 0) (2 * z + 1) 0) e ∙ this_word)
            (λ ne. let q : resting k w3 ≡ 0 = ap one_if (ne_eqb o.slot k (λ e. ne (sym e))) in other_word (2 * k + 1) (λ e. ne (omega arith)) ∙ r.rests k less (omega arith));
        flag_set = λ k less some_flag.
            let t = same_total (flagged k) s.views id v3 w3 at refl in
            subst (λ (z : ℕ). z % 2 ≡ 1) (sym (other_word (2 * k) (λ e. absurd (omega arith)))) (r.flag_set k less (omega arith));
        flag_only = λ k less odd.
            let t = same_total (flagged k) s.views id v3 w3 at refl in
            let was = r.flag_only k less (subst (λ (z : ℕ). z % 2 ≡ 1) (other_word (2 * k) (λ e. absurd (omega arith))) odd) in omega arith;
        in_order = All-set IsInOrder s.views id w3 looked.0 r.in_order;
        found = λ k less some_found.
            let t = same_total (found_flagged k) s.views id v3 w3 at refl in
            subst (λ (z : ℕ). z % 2 ≡ 1) (sym (other_word (2 * k) (λ e. absurd (omega arith)))) (r.found k less (omega arith));
        stands = λ k less some_stand some_end.
            let t : total (standing k) (set s.views id w3) + standing k v3 ≡ total (standing k) s.views + standing k w3 = total_set (standing k) s.views id v3 w3 at in
            let u = same_total (ended k) s.views id v3 w3 at refl in
            dite (ℕ_discrete k o.slot)
            (λ e. ap (λ (z : ℕ). get_or (set s.words (2 * o.slot + 1) 0) (2 * z + 1) 0) e ∙ this_word)
            (λ ne. other_word (2 * k + 1) (λ e. ne (omega arith)) ∙ r.stands k less (omega arith) (omega arith));
        all_cancellers = same_total canceller_count s.views id v3 w3 at refl ∙ r.all_cancellers;
        few_slots = r.few_slots;
        few_cancellers = r.few_cancellers;
      }

-- a canceller sets the flag
module _ (key : Parties) (s : St) (r : Kept key s) (id slot : ℕ) (a : Asking) (at : get_elem? s.views id ≡ some (Canceller a)) (inside : slot < key.slots) (known : slot < length a.flagged) where
  abbrev v4 : View
  v4 = Canceller a

  abbrev w4 : View
  w4 = Canceller (record a { flagged = set a.flagged slot true })

  abbrev word4 : ℕ
  word4 = bit_or (get_or s.words (2 * slot) 0) 1

  asks4 : CancellerInOrder a
  asks4 = all_at IsInOrder s.views id v4 at r.in_order

  pub flag_keeps : Kept key (record { words = set s.words (2 * slot) word4; homes = s.homes; views = set s.views id w4 })
  flag_keeps =
      let wide = r.wide in
      let room : 2 * slot < length s.words = omega arith in
      let other_word : (i : ℕ) → i ≢ 2 * slot → get_or (set s.words (2 * slot) word4) i 0 ≡ get_or s.words i 0 = λ i ne. get_or-set_other s.words (2 * slot) i word4 0 ne in
      let content : (k : ℕ) → get_or (set s.words (2 * slot) word4) (2 * k + 1) 0 ≡ get_or s.words (2 * k + 1) 0 = λ k. other_word (2 * k + 1) (λ e. absurd (omega arith)) in
      let this_word : get_or (set s.words (2 * slot) word4) (2 * slot) 0 ≡ word4 = get_or-set_same s.words (2 * slot) word4 0 room in
      let ored = or_one (get_or s.words (2 * slot) 0) in
      record {
        wide = length-set s.words (2 * slot) word4 ∙ r.wide;
        one_owner = λ k less. let t = same_total (owns k) s.views id v4 w4 at refl in let u = r.one_owner k less in omega arith;
        places = λ k number less some_use.
            let was = r.places k number less some_use in
            let t = same_total (taken k number) s.views id v4 w4 at refl in
            let p = same_total (published k number) s.views id v4 w4 at refl in
            let c : one_if (eqb (get_or (set s.words (2 * slot) word4) (2 * k + 1) 0) number) ≡ one_if (eqb (get_or s.words (2 * k + 1) 0) number) = ap (λ (z : ℕ). one_if (eqb z number)) (content k) in
            omega arith;
        rests = λ k less some_rests. let t = same_total (resting k) s.views id v4 w4 at refl in content k ∙ r.rests k less (omega arith);
        flag_set = λ k less some_flag.
            let t = total_set (flagged k) s.views id v4 w4 at in
            dite (ℕ_discrete k slot)
            (λ e. let odd : word4 % 2 ≡ 1 = omega arith in subst (λ (z : ℕ). z % 2 ≡ 1) (sym (ap (λ (z : ℕ). get_or (set s.words (2 * slot) word4) (2 * z) 0) e ∙ this_word)) odd)
            (λ ne. let q : flagged k w4 ≡ flagged k v4 = flag_other a.flagged slot k ne in
            subst (λ (z : ℕ). z % 2 ≡ 1) (sym (other_word (2 * k) (λ e. ne (omega arith)))) (r.flag_set k less (omega arith)));
        flag_only = λ k less odd.
            let t = total_set (flagged k) s.views id v4 w4 at in
            let part = part_of_total (flagged k) s.views id v4 at in
            dite (ℕ_discrete k slot)
            (λ e. let q : flagged k w4 ≡ 1 = ap (λ (z : ℕ). flagged z w4) e ∙ flag_here a.flagged slot known in omega arith)
            (λ ne. let q : flagged k w4 ≡ flagged k v4 = flag_other a.flagged slot k ne in
            let was = r.flag_only k less (subst (λ (z : ℕ). z % 2 ≡ 1) (other_word (2 * k) (λ e. ne (omega arith))) odd) in omega arith);
        in_order = All-set IsInOrder s.views id w4 (λ k. (λ e. stays_set a.flagged slot k known ((asks4 k).0 e), (asks4 k).1)) r.in_order;
        found = λ k less some_found.
            let t = same_total (found_flagged k) s.views id v4 w4 at refl in
            dite (ℕ_discrete k slot)
            (λ e. let odd : word4 % 2 ≡ 1 = omega arith in subst (λ (z : ℕ). z % 2 ≡ 1) (sym (ap (λ (z : ℕ). get_or (set s.words (2 * slot) word4) (2 * z) 0) e ∙ this_word)) odd)
            (λ ne. subst (λ (z : ℕ). z % 2 ≡ 1) (sym (other_word (2 * k) (λ e. ne (omega arith)))) (r.found k less (omega arith)));
        stands = λ k less some_stand some_end. let t = same_total (standing k) s.views id v4 w4 at refl in let u = same_total (ended k) s.views id v4 w4 at refl in content k ∙ r.stands k less (omega arith) (omega arith);
        all_cancellers = same_total canceller_count s.views id v4 w4 at refl ∙ r.all_cancellers;
        few_slots = r.few_slots;
        few_cancellers = r.few_cancellers;
      }

pair_times : (slot found k number : ℕ) (xs : List (ℕ × ℕ)) → 0 < number → times_of k number (if eqb found 0 then xs else (slot, found) ∷ xs) ≡ times_of k number xs + one_if (eqb slot k && eqb found number)
pair_times slot found k number xs some_use = dite (ℕ_discrete found 0)
    (λ e.
    let a : times_of k number (if eqb found 0 then xs else (slot, found) ∷ xs) ≡ times_of k number xs = ap (λ (b : Bool). times_of k number (if b then xs else (slot, found) ∷ xs)) (eq-eqb found 0 e) in
    let b : one_if (eqb slot k && eqb found number) ≡ one_if (eqb slot k && false) = ap (λ (b : Bool). one_if (eqb slot k && b)) (ne_eqb found number (λ z. absurd (omega arith))) in
    let c = nothing (eqb slot k) in
    omega arith)
    (λ ne.
    let a : times_of k number (if eqb found 0 then xs else (slot, found) ∷ xs) ≡ one_if (eqb slot k && eqb found number) + times_of k number xs =
    ap (λ (b : Bool). times_of k number (if b then xs else (slot, found) ∷ xs)) (ne_eqb found 0 ne) in
    omega arith)
  where
    nothing : (b : Bool) → one_if (b && false) ≡ 0
    nothing true = refl
    nothing false = refl

pair_away : (slot found k number : ℕ) (b : Bool) (xs : List (ℕ × ℕ)) → slot ≢ k → times_of k number (if b then xs else (slot, found) ∷ xs) ≡ times_of k number xs
pair_away slot found k number true xs ne = refl
pair_away slot found k number false xs ne = let none : one_if (eqb slot k && eqb found number) ≡ 0 = ap (λ (b : Bool). one_if (b && eqb found number)) (ne_eqb slot k ne) in omega arith

-- a canceller that has set the flag takes out what is there
module _ (key : Parties) (s : St) (r : Kept key s) (id slot : ℕ) (a : Asking) (at : get_elem? s.views id ≡ some (Canceller a)) (inside : slot < key.slots) (known : slot < length a.ended) (asked : flag a.flagged slot ≡ true) where
  abbrev found5 : ℕ
  found5 = get_or s.words (2 * slot + 1) 0

  abbrev v5 : View
  v5 = Canceller a

  abbrev w5 : View
  w5 = Canceller (record a { ended = set a.ended slot true; taken = if eqb found5 0 then a.taken else (slot, found5) ∷ a.taken })

  asks5 : CancellerInOrder a
  asks5 = all_at IsInOrder s.views id v5 at r.in_order

  order5 : CancellerInOrder (record a { ended = set a.ended slot true; taken = if eqb found5 0 then a.taken else (slot, found5) ∷ a.taken })
  order5 k = dite (ℕ_discrete k slot)
      (λ e. (λ e_2. ap (flag a.flagged) e ∙ asked, λ number some_use. ap (flag (set a.ended slot true)) e ∙ get_or-set_same a.ended slot true false known))
      (λ ne.
      let same : flag (set a.ended slot true) k ≡ flag a.ended k = get_or-set_other a.ended slot k true false ne in (
        λ e. (asks5 k).0 (sym same ∙ e),
        λ number some_use. let away = pair_away slot found5 k number (eqb found5 0) a.taken (λ z. ne (sym z)) in same ∙ (asks5 k).1 number (omega arith),
      ))

  pub take_out_keeps : Kept key (record { words = set s.words (2 * slot + 1) 0; homes = s.homes; views = set s.views id w5 })
  take_out_keeps =
      let wide = r.wide in
      let room : 2 * slot + 1 < length s.words = omega arith in
      let other_word : (i : ℕ) → i ≢ 2 * slot + 1 → get_or (set s.words (2 * slot + 1) 0) i 0 ≡ get_or s.words i 0 = λ i ne. get_or-set_other s.words (2 * slot + 1) i 0 0 ne in
      let this_word : get_or (set s.words (2 * slot + 1) 0) (2 * slot + 1) 0 ≡ 0 = get_or-set_same s.words (2 * slot + 1) 0 0 room in
      let mine : flagged slot v5 ≡ 1 = ap one_if asked in
      let some_flag = part_of_total (flagged slot) s.views id v5 at in
      record {
        wide = length-set s.words (2 * slot + 1) 0 ∙ r.wide;
        one_owner = λ k less. let t = same_total (owns k) s.views id v5 w5 at refl in let u = r.one_owner k less in omega arith;
        places = λ k number less some_use.
            let was = r.places k number less some_use in
            let t : total (taken k number) (set s.views id w5) + taken k number v5 ≡ total (taken k number) s.views + taken k number w5 = total_set (taken k number) s.views id v5 w5 at in
            let p = same_total (published k number) s.views id v5 w5 at refl in
            let q : taken k number w5 ≡ taken k number v5 + one_if (eqb slot k && eqb found5 number) = pair_times slot found5 k number a.taken some_use in
            dite (ℕ_discrete k slot)
            (λ e.
            let c : one_if (eqb (get_or (set s.words (2 * slot + 1) 0) (2 * k + 1) 0) number) ≡ 0 =
            ap (λ (z : ℕ). one_if (eqb z number)) (ap (λ (z : ℕ). get_or (set s.words (2 * slot + 1) 0) (2 * z + 1) 0) e ∙ this_word) ∙ ap one_if (ne_eqb 0 number (λ z. absurd (omega arith))) in
            let d : one_if (eqb (get_or s.words (2 * k + 1) 0) number) ≡ one_if (eqb found5 number) = ap (λ (z : ℕ). one_if (eqb (get_or s.words (2 * z + 1) 0) number)) e in
            let h : one_if (eqb slot k && eqb found5 number) ≡ one_if (eqb found5 number) = ap (λ (b : Bool). one_if (b && eqb found5 number)) (eq-eqb slot k (sym e)) in
            omega arith)
            (λ ne.
            let c : one_if (eqb (get_or (set s.words (2 * slot + 1) 0) (2 * k + 1) 0) number) ≡ one_if (eqb (get_or s.words (2 * k + 1) 0) number) = ap (λ (z : ℕ). one_if (eqb z number)) (other_word (2 * k + 1) (λ e. ne (omega arith))) in
            let h : one_if (eqb slot k && eqb found5 number) ≡ 0 = ap (λ (b : Bool). one_if (b && eqb found5 number)) (ne_eqb slot k (λ e. ne (sym e))) in
            omega arith);
        rests = λ k less some_rests.
            let t = same_total (resting k) s.views id v5 w5 at refl in
            dite (ℕ_discrete k slot)
            (λ e. ap (λ (z : ℕ). get_or (set s.words (2 * slot + 1) 0) (2 * z + 1) 0) e ∙ this_word)
            (λ ne. other_word (2 * k + 1) (λ e. ne (omega arith)) ∙ r.rests k less (omega arith));
        flag_set = λ k less some_flag_k.
            let t = same_total (flagged k) s.views id v5 w5 at refl in
            subst (λ (z : ℕ). z % 2 ≡ 1) (sym (other_word (2 * k) (λ e. absurd (omega arith)))) (r.flag_set k less (omega arith));
        flag_only = λ k less odd.
            let t = same_total (flagged k) s.views id v5 w5 at refl in
            let was = r.flag_only k less (subst (λ (z : ℕ). z % 2 ≡ 1) (other_word (2 * k) (λ e. absurd (omega arith))) odd) in omega arith;
        in_order = All-set IsInOrder s.views id w5 order5 r.in_order;
        found = λ k less some_found.
            let t = same_total (found_flagged k) s.views id v5 w5 at refl in
            subst (λ (z : ℕ). z % 2 ≡ 1) (sym (other_word (2 * k) (λ e. absurd (omega arith)))) (r.found k less (omega arith));
        stands = λ k less some_stand some_end.
            let t = same_total (standing k) s.views id v5 w5 at refl in
            let u = total_set (ended k) s.views id v5 w5 at in
            dite (ℕ_discrete k slot)
            (λ e. ap (λ (z : ℕ). get_or (set s.words (2 * slot + 1) 0) (2 * z + 1) 0) e ∙ this_word)
            (λ ne. let q : ended k w5 ≡ ended k v5 = flag_other a.ended slot k ne in other_word (2 * k + 1) (λ e. ne (omega arith)) ∙ r.stands k less (omega arith) (omega arith));
        all_cancellers = same_total canceller_count s.views id v5 w5 at refl ∙ r.all_cancellers;
        few_slots = r.few_slots;
        few_cancellers = r.few_cancellers;
      }

-- what `publish` owes: two steps, each in the form that the table asks for
pub publish_allowed : (key : Parties) (slots id number : ℕ) (o : Owning) (m : Me (Unit {0}) View) → m.0 ≡ Owner o → o.stage ≡ Idle → o.slot < key.slots
    → Allows (Kept key) slots id m (2 * o.slot + 1) (λ _. number) (publishes (step slots (2 * o.slot + 1) number 0 none) m)
publish_allowed key slots id number o m is idle inside s r _ at _ =
    let at' = subst (λ (z : View). get_elem? s.views id ≡ some z) is at in
    let kept = publish_keeps key s r id o idle at' inside number in (
      Owner (record o { stage = Published; published = number; stood = false; found_set = false }),
      keeps,
      tt,
      kept,
      (
        ap (λ (z : View). (z, m.1)) (sym (ap (owner_published number) is)),
        publish_finds_nothing key s r id o idle at' inside,
        (key, s, id, r, omega arith, at, refl, kept),
      ),
    )

pub take_out_allowed : (key : Parties) (slots id slot : ℕ) (a : Asking) (m : Me (Unit {0}) View) → m.0 ≡ Canceller a → slot < key.slots → slot < length a.ended → flag a.flagged slot ≡ true
    → Allows (Kept key) slots id m (2 * slot + 1) (λ _. 0) (takes_out (step slots (2 * slot + 1) 0 0 none) m)
take_out_allowed key slots id slot a m is inside known asked s r _ at _ =
    let at' = subst (λ (z : View). get_elem? s.views id ≡ some z) is at in
    let half : (2 * slot + 1) / 2 ≡ slot = omega arith in
    let kept = take_out_keeps key s r id slot a at' inside known asked in (
      Canceller (record a { ended = set a.ended slot true; taken = if eqb (get_or s.words (2 * slot + 1) 0) 0 then a.taken else (slot, get_or s.words (2 * slot + 1) 0) ∷ a.taken }),
      keeps,
      tt,
      kept,
      (
        ap (λ (z : View). (z, m.1)) (sym (ap (slot_ended ((2 * slot + 1) / 2) (get_or s.words (2 * slot + 1) 0)) is ∙ ap (λ (k : ℕ). slot_ended k (get_or s.words (2 * slot + 1) 0) (Canceller a)) half)),
        (key, s, id, r, omega arith, at, refl, kept),
      ),
    )

pub check_allowed : (key : Parties) (slots id : ℕ) (o : Owning) (m : Me (Unit {0}) View) → m.0 ≡ Owner o → o.stage ≡ Published → o.slot < key.slots
    → Allows (Kept key) slots id m (2 * o.slot) (λ n. n) (checks (step slots (2 * o.slot) 0 0 none) m)
check_allowed key slots id o m is posted inside s r _ at _ =
    let x : ℕ = get_or s.words (2 * o.slot) 0 in
    let at' = subst (λ (z : View). get_elem? s.views id ≡ some z) is at in
    dite (ℕ_discrete (x % 2) 0)
    (λ clear. let kept = check_keeps key s r id o posted at' inside clear in (
      Owner (record o { stage = Standing; stood = true }),
      keeps,
      tt,
      kept,
      (
        ap (λ (z : View). (z, m.1)) (sym (ap (owner_checked x) is ∙ ap (λ (b : Bool). Owner (owning_checked b o)) (eq-eqb (x % 2) 0 clear))),
        (key, s, id, r, omega arith, at, refl, kept),
      ),
    ))
    (λ set_already. let kept = found_keeps key s r id o posted at' (omega arith) in (
      Owner (record o { found_set = true }),
      keeps,
      tt,
      kept,
      (
        ap (λ (z : View). (z, m.1)) (sym (ap (owner_checked x) is ∙ ap (λ (b : Bool). Owner (owning_checked b o)) (ne_eqb (x % 2) 0 set_already))),
        (key, s, id, r, omega arith, at, refl, kept),
      ),
    ))

-- what an owner finds in its slot is what it published, or nothing
own_found : (key : Parties) (s : St) → Kept key s → (id : ℕ) (o : Owning) → get_elem? s.views id ≡ some (Owner o) → o.slot < key.slots
    → (get_or s.words (2 * o.slot + 1) 0 ≡ 0) ⊎ (get_or s.words (2 * o.slot + 1) 0 ≡ o.published)
own_found key s r id o at inside =
    let found : ℕ = get_or s.words (2 * o.slot + 1) 0 in
    dite (ℕ_discrete found 0) (λ e. inl e) (λ some_use.
    dite (ℕ_discrete found o.published) (λ e. inr e) (λ ne.
    let less : 0 < found = omega arith in
    let all = r.places o.slot found inside less in
    let one = r.one_owner o.slot inside in
    let content : one_if (eqb found found) ≡ 1 = same_slot found in
    let mine : owns o.slot (Owner o) ≡ 1 = same_slot o.slot in
    let others = alone (published o.slot found) (owns o.slot) (published_view o.slot found) s.views id (Owner o) at in
    let away : published o.slot found (Owner o) ≡ 0 = ap (λ (b : Bool). one_if (is_begun o.stage && (eqb o.slot o.slot && b))) (ne_eqb o.published found (λ e. ne (sym e))) ∙ nothing2 (is_begun o.stage) (eqb o.slot o.slot) in
    absurd (omega arith)))
  where
    nothing2 : (a b : Bool) → one_if (a && (b && false)) ≡ 0
    nothing2 true true = refl
    nothing2 true false = refl
    nothing2 false b = refl

pub take_back_allowed : (key : Parties) (slots id : ℕ) (o : Owning) (m : Me (Unit {0}) View) → m.0 ≡ Owner o → may_take_back o ≡ true → o.slot < key.slots
    → Allows (Kept key) slots id m (2 * o.slot + 1) (λ _. 0) (takes_back (step slots (2 * o.slot + 1) 0 0 none) m)
take_back_allowed key slots id o m is may inside s r _ at _ =
    let at' = subst (λ (z : View). get_elem? s.views id ≡ some z) is at in
    let x : ℕ = get_or s.words (2 * o.slot + 1) 0 in
    let kept = take_back_keeps key s r id o may at' inside in (
      Owner (record o { stage = Done; taken = out_of x o.taken }),
      keeps,
      tt,
      kept,
      (
        ap (λ (z : View). (z, m.1)) (sym (ap (owner_done x) is)),
        subst (λ (z : View). (x ≡ 0) ⊎ (x ≡ (owning_of z).published)) (sym is) (own_found key s r id o at' inside),
        (key, s, id, r, omega arith, at, refl, kept),
      ),
    )

pub flag_allowed : (key : Parties) (slots id slot : ℕ) (a : Asking) (m : Me (Unit {0}) View) → m.0 ≡ Canceller a → slot < key.slots → slot < length a.flagged
    → Allows (Kept key) slots id m (2 * slot) (λ n. bit_or n 1) (flags (step slots (2 * slot) 1 0 none) m)
flag_allowed key slots id slot a m is inside known s r _ at _ =
    let at' = subst (λ (z : View). get_elem? s.views id ≡ some z) is at in
    let half : (2 * slot) / 2 ≡ slot = omega arith in
    let kept = flag_keeps key s r id slot a at' inside known in (
      Canceller (record a { flagged = set a.flagged slot true }),
      keeps,
      tt,
      kept,
      (
        ap (λ (z : View). (z, m.1)) (sym (ap (slot_flagged ((2 * slot) / 2)) is ∙ ap (λ (k : ℕ). slot_flagged k (Canceller a)) half)),
        (key, s, id, r, omega arith, at, refl, kept),
      ),
    )
