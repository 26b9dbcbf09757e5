-- Each step keeps the rule.
use Rattle.std.proofs.Common.{◌≡◌, ℕ, ◌+◌, ◌-◌, ◌*◌, ◌%◌, ◌^◌, ◌<◌, ◌≤◌, ◌≢◌, Bool, ◌||◌, eqb, eq-eqb, ne_eqb, List, ◌∷◌, length, get_or, set, if◌then◌else◌, refl, sym, ap, ◌∙◌, subst, arith, length-set, get_or-set_same, get_or-set_other}
use mathlib.Core.Logic.{dite}
use mathlib.Core.Option.{none, some}
use native.Mathlib.Decide.{ℕ_discrete}
use lib.ListN.{get_elem?}
use Rattle.atomic_table.specs.Table.{State, Me, step, keeps, stepped, Allows}
use Rattle.irp_remove.specs.declared.views.Stage.{Stage}
use Rattle.irp_remove.specs.declared.views.Stage.TheVariants.{Idle, Trying, Held}
use Rattle.irp_remove.specs.declared.views.View.{View}
use Rattle.irp_remove.specs.declared.views.View.TheVariants.{Stake}
use Rattle.irp_remove.specs.declared.views.Parties.{Parties}
use Rattle.irp_remove.specs.Core.{total, one_if, is_named, at_stage, began, staked, held, saw, knows_drained, observers, stakes, Kept, acquires, acquired, gives_back, given_back}
use Rattle.irp_remove.proofs.Totals.{total_set, part_of_total, staked_stakes}

abbrev pub St : Type 0
St = State (Unit {0}) View

-- what a change of one seat's view has to meet, for each lock
pub record Fits (views : List View) (k : ℕ) (v w : View) : Type 0 where
  pub grows : began k v ≤ began k w
  pub once : total (began k) views + began k w < 2 + began k v
  pub seen : saw k v < saw k w → total (began k) views + began k w ≡ 1 + began k v
  pub drained : knows_drained k v < knows_drained k w → (total (began k) views + began k w ≡ 1 + began k v) × (total (held k) views + held k w ≡ held k v)
  pub takes : held k v < held k w → total (began k) views + began k w ≡ began k v

module _ (key : Parties) (s : St) (r : Kept key s) (id : ℕ) (v w : View) (at : get_elem? s.views id ≡ some v) (fits : (k : ℕ) → Fits s.views k v w) where
  seen_after : (k : ℕ) → 0 < total (saw k) (set s.views id w) → total (began k) (set s.views id w) ≡ 1
  seen_after k some_saw =
      let b = total_set (began k) s.views id v w at in
      let u = total_set (saw k) s.views id v w at in
      let f = fits k in
      let g = f.grows in
      let o = f.once in
      dite (native.Mathlib.Decide.dec_le (saw k w) (saw k v))
      (λ no_more. let t = r.seen k (omega arith) in omega arith)
      (λ more. let t = f.seen (omega arith) in omega arith)

  drained_after : (k : ℕ) → 0 < total (knows_drained k) (set s.views id w) → (total (began k) (set s.views id w) ≡ 1) × (total (held k) (set s.views id w) ≡ 0)
  drained_after k some_knows =
      let b = total_set (began k) s.views id v w at in
      let u = total_set (knows_drained k) s.views id v w at in
      let h = total_set (held k) s.views id v w at in
      let f = fits k in
      let g = f.grows in
      let o = f.once in
      dite (native.Mathlib.Decide.dec_le (knows_drained k w) (knows_drained k v))
      (λ no_more. let t = r.drained k (omega arith) in let t0 = t.0 in let t1 = t.1 in
      dite (native.Mathlib.Decide.dec_le (held k w) (held k v))
      (λ fewer. (omega arith, omega arith))
      (λ more. let x = f.takes (omega arith) in absurd (omega arith)))
      (λ more. let t = f.drained (omega arith) in let t0 = t.0 in let t1 = t.1 in (omega arith, omega arith))

  -- the word i becomes n, and the seat's view w
  pub moves : (i n : ℕ) → i < length s.words
      → ((k : ℕ) → k ≢ i → (began k w ≡ began k v) × (staked k w ≡ staked k v))
      → n + began i v + 2 * staked i v ≡ get_or s.words i 0 + began i w + 2 * staked i w
      → observers w ≡ observers v → stakes w ≡ stakes v
      → Kept key (record { words = set s.words i n; homes = s.homes; views = set s.views id w })
  moves i n inside others here same_o same_s = record {
    wide = length-set s.words i n ∙ r.wide;
    word_is = λ k less.
        let b = total_set (began k) s.views id v w at in
        let u = total_set (staked k) s.views id v w at in
        let less' : k < length s.words = subst (λ (z : ℕ). k < z) (length-set s.words i n) less in
        let was = r.word_is k less' in
        dite (ℕ_discrete k i)
        (λ e. let now : get_or (set s.words i n) k 0 ≡ n = ap (λ (z : ℕ). get_or (set s.words i n) z 0) e ∙ get_or-set_same s.words i n 0 inside in
        let here' : n + began k v + 2 * staked k v ≡ get_or s.words k 0 + began k w + 2 * staked k w =
        subst (λ (z : ℕ). n + began z v + 2 * staked z v ≡ get_or s.words z 0 + began z w + 2 * staked z w) (sym e) here in
        omega arith)
        (λ ne. let now : get_or (set s.words i n) k 0 ≡ get_or s.words k 0 = get_or-set_other s.words i k n 0 ne in
        let o = others k ne in let o0 = o.0 in let o1 = o.1 in omega arith);
    once = λ k. let b = total_set (began k) s.views id v w at in let o = (fits k).once in omega arith;
    seen = seen_after;
    drained = drained_after;
    all_observers = let t = total_set observers s.views id v w at in let f = r.all_observers in omega arith;
    all_stakes = let t = total_set stakes s.views id v w at in let f = r.all_stakes in omega arith;
    few_observers = r.few_observers;
    few_stakes = r.few_stakes;
  }

pub same_lock : (a : ℕ) → one_if (eqb a a) ≡ 1
same_lock a = ap one_if (eq-eqb a a refl)

pub other_lock : (a b : ℕ) → a ≢ b → one_if (eqb a b) ≡ 0
other_lock a b ne = ap one_if (ne_eqb a b ne)

-- the word of a lock is small, and shows whether its removal has begun
pub word_facts : (key : Parties) (s : St) → Kept key s → (lock : ℕ) → lock < key.locks
    → (get_or s.words lock 0 ≡ total (began lock) s.views + 2 * total (staked lock) s.views) × (total (began lock) s.views < 2) × (total (staked lock) s.views ≤ 4096) × (lock < length s.words)
word_facts key s r lock inside =
    let less : lock < length s.words = subst (λ (z : ℕ). lock < z) (sym r.wide) inside in
    let few = r.few_stakes in
    let all = r.all_stakes in
    let le = staked_stakes lock s.views in
    (r.word_is lock less, r.once lock, omega arith, less)

module _ (key : Parties) (slots id lock tag : ℕ) (seen : List ℕ) (m : Me (Unit {0}) View) (idle : m.0 ≡ Stake Idle seen) (inside : lock < key.locks) where
  pub acquire_allowed : Allows (Kept key) slots id m lock (λ n. (n + 2) % 2 ^ 64) (acquires tag (step slots lock 2 0 none) m)
  acquire_allowed s r _ at _ =
      let x : ℕ = get_or s.words lock 0 in
      let v : View = Stake Idle seen in
      let at' : get_elem? s.views id ≡ some v = subst (λ (z : View). get_elem? s.views id ≡ some z) idle at in
      let facts = word_facts key s r lock inside in
      let is = facts.0 in
      let bit = facts.1 in
      let few = facts.2 in
      let more : x + 2 ≡ (x + 2) % 18446744073709551616 = omega arith in
      let one = same_lock lock in
      dite (ℕ_discrete (x % 2) 0)
      (λ clear.
      let w : View = Stake (Held lock tag) seen in
      let none_began : total (began lock) s.views ≡ 0 = omega arith in
      let fits : (k : ℕ) → Fits s.views k v w = λ k. record {
        grows = omega arith;
        once = let o = r.once k in omega arith;
        seen = λ h. absurd (omega arith);
        drained = λ h. absurd (omega arith);
        takes = λ h. dite (ℕ_discrete lock k)
            (λ e. let b : total (began k) s.views ≡ 0 = subst (λ (z : ℕ). total (began z) s.views ≡ 0) e none_began in omega arith)
            (λ ne. let z = other_lock lock k ne in absurd (omega arith));
      } in
      let kept = moves key s r id v w at' fits lock (x + 2) facts.3 (λ k ne. (refl, other_lock lock k (λ e. ne (sym e)))) (omega arith) refl refl in (
        w,
        keeps,
        tt,
        subst (λ (n : ℕ). Kept key (stepped s lock n id m.1 w keeps)) more kept,
        (ap (λ (z : View). (z, m.1)) (sym (ap (acquired tag lock x) idle ∙ ap (λ (b : Bool). if b then w else Stake (Trying lock) (lock ∷ seen)) (eq-eqb (x % 2) 0 clear))), (key, s, id, r, inside, at, refl, kept)),
      ))
      (λ taken.
      let w : View = Stake (Trying lock) (lock ∷ seen) in
      let one_began : total (began lock) s.views ≡ 1 = omega arith in
      let fits : (k : ℕ) → Fits s.views k v w = λ k. record {
        grows = omega arith;
        once = let o = r.once k in omega arith;
        seen = λ h. dite (ℕ_discrete lock k)
            (λ e. let b : total (began k) s.views ≡ 1 = subst (λ (z : ℕ). total (began z) s.views ≡ 1) e one_began in omega arith)
            (λ ne. let z : saw k w ≡ saw k v = ap (λ (b : Bool). one_if (b || is_named k seen)) (ne_eqb lock k ne) in absurd (omega arith));
        drained = λ h. absurd (omega arith);
        takes = λ h. absurd (omega arith);
      } in
      let kept = moves key s r id v w at' fits lock (x + 2) facts.3 (λ k ne. (refl, other_lock lock k (λ e. ne (sym e)))) (omega arith) refl refl in (
        w,
        keeps,
        tt,
        subst (λ (n : ℕ). Kept key (stepped s lock n id m.1 w keeps)) more kept,
        (ap (λ (z : View). (z, m.1)) (sym (ap (acquired tag lock x) idle ∙ ap (λ (b : Bool). if b then Stake (Held lock tag) seen else w) (ne_eqb (x % 2) 0 taken))), (key, s, id, r, inside, at, refl, kept)),
      ))

module _ (key : Parties) (slots id lock : ℕ) (stage : Stage) (seen : List ℕ) (m : Me (Unit {0}) View) (placed : m.0 ≡ Stake stage seen) (inside : lock < key.locks)
    (here : at_stage lock stage ≡ 1) (nowhere_else : (k : ℕ) → k ≢ lock → at_stage k stage ≡ 0) where
  pub give_back_allowed : Allows (Kept key) slots id m lock (λ n. (n + (2 ^ 64 - 2)) % 2 ^ 64) (gives_back (step slots lock 2 0 none) m)
  give_back_allowed s r _ at _ =
      let x : ℕ = get_or s.words lock 0 in
      let v : View = Stake stage seen in
      let w : View = Stake Idle seen in
      let at' : get_elem? s.views id ≡ some v = subst (λ (z : View). get_elem? s.views id ≡ some z) placed at in
      let facts = word_facts key s r lock inside in
      let is = facts.0 in
      let bit = facts.1 in
      let few = facts.2 in
      let mine : staked lock v ≤ total (staked lock) s.views = part_of_total (staked lock) s.views id v at' in
      let mine' : 1 ≤ total (staked lock) s.views = omega arith in
      let less : x - 2 ≡ (x + 18446744073709551614) % 18446744073709551616 = omega arith in
      let fits : (k : ℕ) → Fits s.views k v w = λ k. record {
        grows = omega arith;
        once = let o = r.once k in omega arith;
        seen = λ h. absurd (omega arith);
        drained = λ h. absurd (omega arith);
        takes = λ h. absurd (omega arith);
      } in
      let kept = moves key s r id v w at' fits lock (x - 2) facts.3 (λ k ne. (refl, sym (nowhere_else k ne))) (omega arith) refl refl in (
        w,
        keeps,
        tt,
        subst (λ (n : ℕ). Kept key (stepped s lock n id m.1 w keeps)) less kept,
        (ap (λ (z : View). (z, m.1)) (sym (ap given_back placed)), (key, s, id, r, inside, at, refl, kept)),
      )
