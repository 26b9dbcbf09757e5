-- The observer's steps keep the rule, and so does the making of observers and stakes.
use Rattle.std.proofs.Common.{◌≡◌, ℕ, zero, suc, ◌+◌, ◌-◌, ◌*◌, ◌/◌, ◌%◌, ◌<◌, ◌≤◌, ◌≢◌, Bool, true, false, eq-eqb, ne_eqb, List, [], ◌∷◌, ◌++◌, length, get_or, set, replicate, max, bit_or, if◌then◌else◌, refl, sym, ap, ◌∙◌, subst, arith, get_or-set_same, get_or-set_other}
use mathlib.Core.Logic.{dite}
use mathlib.Core.Option.{none, some}
use native.Mathlib.Decide.{ℕ_discrete}
use lib.ListN.{get_elem?}
use Rattle.std.specs.Int.Bits.{or_step, or_zero_r}
use Rattle.atomic_table.specs.Table.{Me, step, keeps, Allows, Splits}
use Rattle.irp_remove.specs.declared.views.Watch.{Watch}
use Rattle.irp_remove.specs.declared.views.View.{View}
use Rattle.irp_remove.specs.declared.views.View.TheVariants.{First, Observer}
use Rattle.irp_remove.specs.declared.views.Parties.{Parties}
use Rattle.irp_remove.specs.Core.{total, one_if, flag, began, staked, held, saw, knows_drained, observers, stakes, Kept, begins, begun, looks, looked, watch_looked, one_observer_less, one_stake_less, new_observer, new_stake, at_first}
use Rattle.irp_remove.proofs.Totals.{total_set, total_snoc, part_of_total, held_staked}
use Rattle.irp_remove.proofs.Steps.{St, Fits, moves, word_facts}

-- `n | 1`
pub or_one : (n : ℕ) → bit_or n 1 ≡ n / 2 * 2 + 1
or_one n = let s : bit_or n 1 ≡ bit_or (n / 2) 0 * 2 + max (n % 2) 1 = or_step n 1 in
    let z : bit_or (n / 2) 0 ≡ n / 2 = or_zero_r (n / 2) in
    let t : bit_or (n / 2) 0 * 2 ≡ n / 2 * 2 = ap (λ (q : ℕ). q * 2) z in
    omega arith

flag_set : (xs : List Bool) (i : ℕ) → i < length xs → one_if (flag (set xs i true) i) ≡ 1
flag_set xs i inside = ap one_if (get_or-set_same xs i true false inside)

flag_other : (xs : List Bool) (i k : ℕ) → k ≢ i → one_if (flag (set xs i true) k) ≡ one_if (flag xs k)
flag_other xs i k ne = ap one_if (get_or-set_other xs i k true false ne)

one_at_most : (b : Bool) → one_if b ≤ 1
one_at_most true = omega arith
one_at_most false = omega arith

module _ (key : Parties) (slots id lock : ℕ) (o : Watch) (m : Me (Unit {0}) View) (watches : m.0 ≡ Observer o) (inside : lock < key.locks) where
  pub begin_allowed : lock < length o.began → Allows (Kept key) slots id m lock (λ n. bit_or n 1) (begins (step slots lock 1 0 none) m)
  begin_allowed room s r _ at _ =
      let x : ℕ = get_or s.words lock 0 in
      let v : View = Observer o in
      let at' : get_elem? s.views id ≡ some v = subst (λ (z : View). get_elem? s.views id ≡ some z) watches at in
      let facts = word_facts key s r lock inside in
      let is = facts.0 in
      let bit = facts.1 in
      let few = facts.2 in
      let ored = or_one x in
      let mine : began lock v ≤ total (began lock) s.views = part_of_total (began lock) s.views id v at' in
      let begun_here = record o { began = set o.began lock true } in
      let seen_here = record o { saw = set o.saw lock true } in
      dite (ℕ_discrete (x % 2) 0)
      (λ clear.
      let w : View = Observer begun_here in
      let none_began : total (began lock) s.views ≡ 0 = omega arith in
      let now : began lock w ≡ 1 = flag_set o.began lock room in
      let fits : (k : ℕ) → Fits s.views k v w = λ k. dite (ℕ_discrete k lock)
      (λ e.
      let now' : began k w ≡ 1 = subst (λ (z : ℕ). began z w ≡ 1) (sym e) now in
      let b : total (began k) s.views ≡ 0 = subst (λ (z : ℕ). total (began z) s.views ≡ 0) (sym e) none_began in
      let p : began k v ≤ total (began k) s.views = part_of_total (began k) s.views id v at' in
      record { grows = omega arith; once = omega arith; seen = λ h. absurd (omega arith); drained = λ h. absurd (omega arith); takes = λ h. absurd (omega arith) })
      (λ ne.
      let same : began k w ≡ began k v = flag_other o.began lock k ne in
      let u = r.once k in
      record { grows = omega arith; once = omega arith; seen = λ h. absurd (omega arith); drained = λ h. absurd (omega arith); takes = λ h. absurd (omega arith) }) in
      let kept = moves key s r id v w at' fits lock (bit_or x 1) facts.3 (λ k ne. (flag_other o.began lock k ne, refl)) (omega arith) refl refl in (
        w,
        keeps,
        tt,
        kept,
        (ap (λ (z : View). (z, m.1)) (sym (ap (begun lock x) watches ∙ ap (λ (b : Bool). Observer (if b then begun_here else seen_here)) (eq-eqb (x % 2) 0 clear))), (key, s, id, r, inside, at, refl, kept)),
      ))
      (λ taken.
      let w : View = Observer seen_here in
      let one_began : total (began lock) s.views ≡ 1 = omega arith in
      let fits : (k : ℕ) → Fits s.views k v w = λ k.
      let u = r.once k in
      record {
        grows = omega arith;
        once = omega arith;
        seen = λ h. dite (ℕ_discrete k lock)
            (λ e. let b : total (began k) s.views ≡ 1 = subst (λ (z : ℕ). total (began z) s.views ≡ 1) (sym e) one_began in omega arith)
            (λ ne. let z : saw k w ≡ saw k v = flag_other o.saw lock k ne in absurd (omega arith));
        drained = λ h. absurd (omega arith);
        takes = λ h. absurd (omega arith);
      } in
      let kept = moves key s r id v w at' fits lock (bit_or x 1) facts.3 (λ k ne. (refl, refl)) (omega arith) refl refl in (
        w,
        keeps,
        tt,
        kept,
        (ap (λ (z : View). (z, m.1)) (sym (ap (begun lock x) watches ∙ ap (λ (b : Bool). Observer (if b then begun_here else seen_here)) (ne_eqb (x % 2) 0 taken))), (key, s, id, r, inside, at, refl, kept)),
      ))

  pub look_allowed : Allows (Kept key) slots id m lock (λ n. n) (looks (step slots lock 0 0 none) m)
  look_allowed s r _ at _ =
      let x : ℕ = get_or s.words lock 0 in
      let v : View = Observer o in
      let at' : get_elem? s.views id ≡ some v = subst (λ (z : View). get_elem? s.views id ≡ some z) watches at in
      let facts = word_facts key s r lock inside in
      let is = facts.0 in
      let bit = facts.1 in
      let le = held_staked lock s.views in
      let w : View = Observer (watch_looked lock x o) in
      let fits : (k : ℕ) → Fits s.views k v w = λ k.
      let u = r.once k in
      record {
        grows = omega arith;
        once = omega arith;
        seen = λ h. absurd (omega arith);
        drained = λ h. dite (ℕ_discrete x 1)
            (λ one. dite (ℕ_discrete k lock)
            (λ e.
            let b : total (began lock) s.views ≡ 1 = omega arith in
            let n : total (held lock) s.views ≡ 0 = omega arith in
            let b' : total (began k) s.views ≡ 1 = subst (λ (z : ℕ). total (began z) s.views ≡ 1) (sym e) b in
            let n' : total (held k) s.views ≡ 0 = subst (λ (z : ℕ). total (held z) s.views ≡ 0) (sym e) n in
            (omega arith, omega arith))
            (λ ne.
            let z : knows_drained k w ≡ knows_drained k v =
            ap (λ (b : Bool). one_if (flag (if b then set o.drained lock true else o.drained) k)) (eq-eqb x 1 one) ∙ flag_other o.drained lock k ne in
            absurd (omega arith)))
            (λ more.
            let z : knows_drained k w ≡ knows_drained k v =
            ap (λ (b : Bool). one_if (flag (if b then set o.drained lock true else o.drained) k)) (ne_eqb x 1 more) in
            absurd (omega arith));
        takes = λ h. absurd (omega arith);
      } in
      let kept = moves key s r id v w at' fits lock x facts.3 (λ k ne. (refl, refl)) (omega arith) refl refl in (
        w,
        keeps,
        tt,
        kept,
        (ap (λ (z : View). (z, m.1)) (sym (ap (looked lock x) watches)), (key, s, id, r, inside, at, refl, kept)),
      )

false_at : (n k : ℕ) → flag (replicate n false) k ≡ false
false_at zero k = refl
false_at (suc n) zero = refl
false_at (suc n) (suc k) = false_at n k

-- nothing is known or held
pub record Blank (k : ℕ) (v : View) : Type 0 where
  pub began_none : began k v ≡ 0
  pub staked_none : staked k v ≡ 0
  pub held_none : held k v ≡ 0
  pub saw_none : saw k v ≡ 0
  pub knows_none : knows_drained k v ≡ 0

pub blank_observer : (k : ℕ) → Blank k new_observer
blank_observer k = record { began_none = ap one_if (false_at 64 k); staked_none = refl; held_none = refl; saw_none = ap one_if (false_at 64 k); knows_none = ap one_if (false_at 64 k) }

pub blank_stake : (k : ℕ) → Blank k new_stake
blank_stake k = record { began_none = refl; staked_none = refl; held_none = refl; saw_none = refl; knows_none = refl }

blank_first : (o s k : ℕ) → Blank k (First o s)
blank_first o s k = record { began_none = refl; staked_none = refl; held_none = refl; saw_none = refl; knows_none = refl }

module _ (key : Parties) (id : ℕ) (v left right : View) (was : (k : ℕ) → Blank k v) (new : (k : ℕ) → Blank k left) (other : (k : ℕ) → Blank k right)
    (same_o : observers left + observers right ≡ observers v) (same_s : stakes left + stakes right ≡ stakes v) where
  module _ (s : St) (at : get_elem? s.views id ≡ some v) (f : View → ℕ) where
    split_total : f v ≡ f left + f right → total f (set s.views id left ++ right ∷ []) ≡ total f s.views
    split_total even = let a = total_set f s.views id v left at in let b = total_snoc f (set s.views id left) right in omega arith

  pub splits : Splits (Kept key) id v left right
  splits s r at =
      let same_began : (k : ℕ) → total (began k) (set s.views id left ++ right ∷ []) ≡ total (began k) s.views = λ k.
      let a = (was k).began_none in let b = (new k).began_none in let c = (other k).began_none in split_total s at (began k) (omega arith) in
      let same_staked : (k : ℕ) → total (staked k) (set s.views id left ++ right ∷ []) ≡ total (staked k) s.views = λ k.
      let a = (was k).staked_none in let b = (new k).staked_none in let c = (other k).staked_none in split_total s at (staked k) (omega arith) in
      let same_held : (k : ℕ) → total (held k) (set s.views id left ++ right ∷ []) ≡ total (held k) s.views = λ k.
      let a = (was k).held_none in let b = (new k).held_none in let c = (other k).held_none in split_total s at (held k) (omega arith) in
      let same_saw : (k : ℕ) → total (saw k) (set s.views id left ++ right ∷ []) ≡ total (saw k) s.views = λ k.
      let a = (was k).saw_none in let b = (new k).saw_none in let c = (other k).saw_none in split_total s at (saw k) (omega arith) in
      let same_knows : (k : ℕ) → total (knows_drained k) (set s.views id left ++ right ∷ []) ≡ total (knows_drained k) s.views = λ k.
      let a = (was k).knows_none in let b = (new k).knows_none in let c = (other k).knows_none in split_total s at (knows_drained k) (omega arith) in
      record {
        wide = r.wide;
        word_is = λ k less. let a = r.word_is k less in let b = same_began k in let c = same_staked k in omega arith;
        once = λ k. let a = r.once k in let b = same_began k in omega arith;
        seen = λ k h. let b = same_began k in let c = same_saw k in let t = r.seen k (omega arith) in omega arith;
        drained = λ k h. let b = same_began k in let c = same_knows k in let d = same_held k in let t = r.drained k (omega arith) in let t0 = t.0 in let t1 = t.1 in (omega arith, omega arith);
        all_observers = split_total s at observers (sym same_o) ∙ r.all_observers;
        all_stakes = split_total s at stakes (sym same_s) ∙ r.all_stakes;
        few_observers = r.few_observers;
        few_stakes = r.few_stakes;
      }

-- the first seat makes an observer, or a stake
pub observer_made : (key : Parties) (id o s : ℕ) (v : View) → v ≡ First o s → 0 < o → Splits (Kept key) id v (one_observer_less v) new_observer
observer_made key id o s v is some_left = subst (λ (z : View). Splits (Kept key) id z (one_observer_less z) new_observer) (sym is)
    (splits key id (First o s) (First (o - 1) s) new_observer (blank_first o s) (blank_first (o - 1) s) blank_observer (omega arith) (omega arith))

pub stake_made : (key : Parties) (id o s : ℕ) (v : View) → v ≡ First o s → 0 < s → Splits (Kept key) id v (one_stake_less v) new_stake
stake_made key id o s v is some_left = subst (λ (z : View). Splits (Kept key) id z (one_stake_less z) new_stake) (sym is)
    (splits key id (First o s) (First o (s - 1)) new_stake (blank_first o s) (blank_first o (s - 1)) blank_stake (omega arith) (omega arith))

-- at the start every word is 0
pub at_opening : (key : Parties) (words : List ℕ) → length words ≡ key.locks → ((k : ℕ) → get_or words k 0 ≡ 0) → key.observers ≤ 64 → key.stakes ≤ 4096
    → Kept key (record { words = words; homes = []; views = at_first key ∷ [] })
at_opening key words wide zeros few_o few_s = record {
  wide = wide;
  word_is = λ k less. zeros k;
  once = λ k. omega arith;
  seen = λ k h. absurd (omega arith);
  drained = λ k h. absurd (omega arith);
  all_observers = omega arith;
  all_stakes = omega arith;
  few_observers = few_o;
  few_stakes = few_s;
}
