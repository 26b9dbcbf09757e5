-- A seat's begin-remove and its look at a lock are steps of its observer.
use Rattle.std.proofs.Common.{◌≡◌, ℕ, ◌+◌, ◌%◌, ◌^◌, ◌<◌, Bool, true, false, ◌||◌, eqb, eq-eqb, ne_eqb, List, [], ◌∷◌, ◌++◌, length, get_or, set, bit_or, Some, None, if◌then◌else◌, refl, sym, ap, ◌∙◌, subst, arith, length-set, get_or-set_same, get_or-set_other, zero, suc, ◌≤◌}
use Rattle.std.specs.Prelude.{◌==◌}
use Rattle.std.specs.List.{list_any}
use Rattle.std.proofs.lemmas.List.{set-get_or}
use Rattle.std.proofs.lemmas.List.Folds.{list_any-append}
use mathlib.Core.Logic.{dite}
use mathlib.Core.Option.{some}
use native.Mathlib.Decide.{ℕ_discrete}
use lib.ListN.{get_elem?}
use Rattle.irp_transcript.specs.declared.word_line.WordReply.TheVariants as reply
use Rattle.irp_remove.specs.declared.views.Watch.{Watch}
use Rattle.irp_remove.specs.declared.views.View.{View}
use Rattle.irp_remove.specs.declared.views.View.TheVariants.{Observer}
use Rattle.irp_remove.specs.declared.views.Parties.{Parties}
use Rattle.irp_remove.specs.Core.{Kept, flag, begun, looked}
use Rattle.irp_remove.proofs.Observing.{or_one}
use Rattle.irp_plain.specs.declared.parts.After.TheVariants.{In, Told}
use Rattle.irp_plain.specs.declared.parts.Change.{Change}
use Rattle.irp_plain.specs.declared.parts.Learned.{Learned}
use Rattle.irp_plain.specs.declared.parts.Learned.TheVariants.{Removed, Drained}
use Rattle.irp_plain.specs.declared.parts.ActPlace.{ActPlace}
use Rattle.irp_machine.specs.declared.parts.Planned.{Planned}
use Rattle.irp_plain.specs.declared.parts.Stage.TheVariants as stages
use Rattle.irp_plain.specs.declared.answered.Answered.TheVariants.{Word}
use Rattle.irp_plain.specs.Changes as change
use Rattle.irp_plain.specs.Lists.{with_item}
use Rattle.irp_machine.specs.Machine.{RulesValue}
use Rattle.irp_plain.specs.Seats.{SeatValue, new_seat, is_removed, is_drained, after_step}
use Rattle.irp_machine.specs.Standings.{StandingValue, after_change, with_given, with_word}
use Rattle.irp_machine_laws.specs.LockTables.{LockTable, StandsFor, IsLearned, tried}
use Rattle.irp_machine_laws.specs.LockSteps.{moved, IsBegin, IsLook}
use Rattle.irp_machine_laws.proofs.LockMoves.{begins_it, looks_at}
use Rattle.irp_machine_laws.proofs.LockShift.{item_set, shifted, observer_shift}
use Rattle.irp_machine_laws.proofs.LockActs.{After, by_test, quiet_tries, quiet_busy, writes, inside}

-- an item that is there has a place
there_below : {X : Type 0} (items : List X) (place : ℕ) (item : X) → get_elem? items place ≡ some item → place < length items
there_below [] place item is = absurd (let bad : ⊥ = cc in bad)
there_below (first ∷ items) zero item is = omega arith
there_below (first ∷ items) (suc place) item is = let rest = there_below items place item is in omega arith

-- ---- what is learned

or_true : (b : Bool) → (b || true) ≡ true
or_true true = refl
or_true false = refl

or_false : (b : Bool) → (b || false) ≡ b
or_false true = refl
or_false false = refl

-- one more thing learned
learned_more : (test : Learned → Bool) (learned : List Learned) (one : Learned) → list_any test (learned ++ one ∷ []) ≡ (list_any test learned || test one)
learned_more test learned one = list_any-append test learned (one ∷ []) ∙ ap (λ (b : Bool). list_any test learned || b) (or_false (test one))

module _ (locks : ℕ) (own after : SeatValue) (watch : Watch) (is : IsLearned locks own watch) (lock : ℕ) (few : locks ≤ 64) (inside_it : lock < locks) where
  module _ (more : after.learned ≡ own.learned ++ Removed lock ∷ []) where
    removed_now : (k : ℕ) → list_any (is_removed k) after.learned ≡ (list_any (is_removed k) own.learned || eqb lock k)
    removed_now k = ap (list_any (is_removed k)) more ∙ learned_more (is_removed k) own.learned (Removed lock)

    drained_now : (k : ℕ) → list_any (is_drained k) after.learned ≡ list_any (is_drained k) own.learned
    drained_now k = ap (list_any (is_drained k)) more ∙ (learned_more (is_drained k) own.learned (Removed lock) ∙ or_false (list_any (is_drained k) own.learned))

    -- it began the removal
    learned_began : IsLearned locks after (record watch { began = set watch.began lock true })
    learned_began = record {
      removed = λ k less. dite (ℕ_discrete k lock)
          (λ e.
          let there : lock < length watch.began = let long = is.began_flags in omega arith in
          let now : flag (set watch.began lock true) k ≡ true = ap (flag (set watch.began lock true)) e ∙ get_or-set_same watch.began lock true false there in
          removed_now k ∙ (ap (λ (b : Bool). list_any (is_removed k) own.learned || b) (eq-eqb lock k (sym e)) ∙ (or_true (list_any (is_removed k) own.learned) ∙ sym (ap (λ (b : Bool). b || flag watch.saw k) now))))
          (λ ne.
          let same : flag (set watch.began lock true) k ≡ flag watch.began k = get_or-set_other watch.began lock k true false ne in
          removed_now k ∙ (ap (λ (b : Bool). list_any (is_removed k) own.learned || b) (ne_eqb lock k (λ e. ne (sym e))) ∙ (or_false (list_any (is_removed k) own.learned) ∙ (is.removed k less ∙ sym (ap (λ (b : Bool). b || flag watch.saw k) same)))));
      drained = λ k less. drained_now k ∙ is.drained k less;
      began_flags = length-set watch.began lock true ∙ is.began_flags;
      saw_flags = is.saw_flags;
      drained_flags = is.drained_flags;
    }

    -- it found the removal begun
    learned_saw : IsLearned locks after (record watch { saw = set watch.saw lock true })
    learned_saw = record {
      removed = λ k less. dite (ℕ_discrete k lock)
          (λ e.
          let there : lock < length watch.saw = let long = is.saw_flags in omega arith in
          let now : flag (set watch.saw lock true) k ≡ true = ap (flag (set watch.saw lock true)) e ∙ get_or-set_same watch.saw lock true false there in
          removed_now k ∙ (ap (λ (b : Bool). list_any (is_removed k) own.learned || b) (eq-eqb lock k (sym e)) ∙ (or_true (list_any (is_removed k) own.learned) ∙ sym (ap (λ (b : Bool). flag watch.began k || b) now ∙ or_true (flag watch.began k)))))
          (λ ne.
          let same : flag (set watch.saw lock true) k ≡ flag watch.saw k = get_or-set_other watch.saw lock k true false ne in
          removed_now k ∙ (ap (λ (b : Bool). list_any (is_removed k) own.learned || b) (ne_eqb lock k (λ e. ne (sym e))) ∙ (or_false (list_any (is_removed k) own.learned) ∙ (is.removed k less ∙ sym (ap (λ (b : Bool). flag watch.began k || b) same)))));
      drained = λ k less. drained_now k ∙ is.drained k less;
      began_flags = is.began_flags;
      saw_flags = length-set watch.saw lock true ∙ is.saw_flags;
      drained_flags = is.drained_flags;
    }

  -- it found the lock drained
  learned_drained : (watch_2 : Watch) → watch_2.began ≡ watch.began → watch_2.saw ≡ watch.saw → watch_2.drained ≡ set watch.drained lock true
      → after.learned ≡ own.learned ++ Drained lock ∷ [] → IsLearned locks after watch_2
  learned_drained watch_2 same_began same_saw drains more = record {
    removed = λ k less.
        ap (list_any (is_removed k)) more ∙ (learned_more (is_removed k) own.learned (Drained lock) ∙ (or_false (list_any (is_removed k) own.learned) ∙ (is.removed k less ∙ (λ i. flag (sym same_began i) k || flag (sym same_saw i) k))));
    drained = λ k less.
        let now : list_any (is_drained k) after.learned ≡ (list_any (is_drained k) own.learned || eqb lock k) = ap (list_any (is_drained k)) more ∙ learned_more (is_drained k) own.learned (Drained lock) in
        dite (ℕ_discrete k lock)
        (λ e.
        let there : lock < length watch.drained = let long = is.drained_flags in omega arith in
        let set_now : flag watch_2.drained k ≡ true = ap (λ flags. flag flags k) drains ∙ (ap (flag (set watch.drained lock true)) e ∙ get_or-set_same watch.drained lock true false there) in
        now ∙ (ap (λ (b : Bool). list_any (is_drained k) own.learned || b) (eq-eqb lock k (sym e)) ∙ (or_true (list_any (is_drained k) own.learned) ∙ sym set_now)))
        (λ ne.
        let same : flag watch_2.drained k ≡ flag watch.drained k = ap (λ flags. flag flags k) drains ∙ get_or-set_other watch.drained lock k true false ne in
        now ∙ (ap (λ (b : Bool). list_any (is_drained k) own.learned || b) (ne_eqb lock k (λ e. ne (sym e))) ∙ (or_false (list_any (is_drained k) own.learned) ∙ (is.drained k less ∙ sym same))));
    began_flags = ap length same_began ∙ is.began_flags;
    saw_flags = ap length same_saw ∙ is.saw_flags;
    drained_flags = ap length drains ∙ (length-set watch.drained lock true ∙ is.drained_flags);
  }

  -- it learned nothing
  learned_nothing : (watch_2 : Watch) → watch_2.began ≡ watch.began → watch_2.saw ≡ watch.saw → watch_2.drained ≡ watch.drained → after.learned ≡ own.learned → IsLearned locks after watch_2
  learned_nothing watch_2 same_began same_saw same_drained same = record {
    removed = λ k less. ap (list_any (is_removed k)) same ∙ (is.removed k less ∙ (λ i. flag (sym same_began i) k || flag (sym same_saw i) k));
    drained = λ k less. ap (list_any (is_drained k)) same ∙ (is.drained k less ∙ (λ i. flag (sym same_drained i) k));
    began_flags = ap length same_began ∙ is.began_flags;
    saw_flags = ap length same_saw ∙ is.saw_flags;
    drained_flags = ap length same_drained ∙ is.drained_flags;
  }

-- ---- the steps

module _ (rules : RulesValue) (standing : StandingValue) (key : Parties) (table : LockTable) (r : StandsFor rules standing key table) (seat : ℕ) (below : seat < length standing.seats)
    (which : ActPlace) (lock : ℕ) (less : lock < length standing.words) where
  abbrev own : SeatValue
  own = get_or standing.seats seat new_seat

  abbrev acts : List Planned
  acts = get_or rules.acts seat []

  abbrev found : ℕ
  found = get_or table.words lock 0

  abbrev Leads : (Change → LockTable → LockTable → Type 0) → Change → Type 0
  Leads kind step = After rules standing key table r seat below which kind step

  within : lock < key.locks
  within = inside rules standing key table r seat below which lock less

  -- the machine sets the bit as the table does
  bit_is : change.with_bit found ≡ bit_or found 1
  bit_is = let ored = or_one found in
      dite (ℕ_discrete (found % 2) 0)
      (λ even. let plain : change.with_bit found ≡ found + 1 = ap (λ (b : Bool). if b then found + 1 else found) (eq-eqb (found % 2) 0 even) in omega arith)
      (λ odd. let plain : change.with_bit found ≡ found = ap (λ (b : Bool). if b then found + 1 else found) (ne_eqb (found % 2) 0 odd) in omega arith)

  module _ (before : tried acts own ≡ None) where
    abbrev began_step : Change
    began_step = record (change.only (In stages.Begun)) { word = Some (record { lock = lock; word = bit_or found 1 }); learns = Some (Removed lock) }

    abbrev saw_step : Change
    saw_step = record (change.only (Told (Word reply.AlreadyRemoving))) { word = Some (record { lock = lock; word = bit_or found 1 }); learns = Some (Removed lock) }

    -- the observer's step, where the step of the machine and what is known behind it are these
    begins_so : (step : Change) (watch watch_2 : Watch) → get_elem? table.views seat ≡ some (Observer watch) → lock < length watch.began
        → step.word ≡ Some (record { lock = lock; word = bit_or found 1 }) → step.gives ≡ None → tried acts (after_step step which rules.tells own) ≡ None
        → (after_step step which rules.tells own).held ≡ own.held → begun lock found (Observer watch) ≡ Observer watch_2
        → IsLearned key.locks (after_step step which rules.tells own) watch_2
        → step.after ≡ (if found % 2 == 0 then In stages.Begun else Told (Word reply.AlreadyRemoving)) → Leads (IsBegin seat lock) step
    begins_so step watch watch_2 at room wrote gone behind same view_is learned answered =
        let after : SeatValue = after_step step which rules.tells own in
        let done = begins_it key table r.kept r.homes lock within seat watch at room in
        let shift = observer_shift rules standing key table r seat below watch watch_2 at after same
        (quiet_tries rules standing key table r seat below which after before behind) (quiet_busy rules standing key table r seat below which after same before behind)
        learned (there_below table.views seat (Observer watch) at) in
        let kept = subst (λ (view : View). Kept key (moved table lock (bit_or found 1) seat view)) view_is done.kept in
        let stands = writes rules standing key table r seat below which step lock (bit_or found 1) seat (Observer watch_2) less wrote gone kept shift in (
          moved table lock (bit_or found 1) seat (begun lock found (Observer watch)),
          record { watch = watch; takes = (at, refl, done.event); writes = wrote; after = answered },
          subst (λ (view : View). StandsFor rules (after_change seat step which rules.tells standing) key (moved table lock (bit_or found 1) seat view)) (sym view_is) stands,
        )

    pub begins : Leads (IsBegin seat lock) (change.begin found lock)
    begins =
        let watches = r.observers seat below in
        let watch = watches.0 in
        let at = watches.1 in
        let is = watches.2 in
        let few = r.few_locks in
        let room : lock < length watch.began = let long = is.began_flags in let in_it = within in omega arith in
        let pick : ℕ → Change = λ word.
        record (change.only (if found % 2 == 0 then In stages.Begun else Told (Word reply.AlreadyRemoving))) { word = Some (record { lock = lock; word = word }); learns = Some (Removed lock) } in
        subst (λ (word : ℕ). Leads (IsBegin seat lock) (pick word)) (sym bit_is)
        (dite (ℕ_discrete (found % 2) 0)
        (λ even.
        let test : (found % 2 == 0) ≡ true = eq-eqb (found % 2) 0 even in
        let after : SeatValue = after_step began_step which rules.tells own in
        let done = begins_so began_step watch (record watch { began = set watch.began lock true }) at room refl refl refl refl
        (ap (λ (b : Bool). Observer (if b then record watch { began = set watch.began lock true } else record watch { saw = set watch.saw lock true })) test)
        (learned_began key.locks own after watch is lock few within refl)
        (sym (ap (λ (b : Bool). if b then In stages.Begun else Told (Word reply.AlreadyRemoving)) test)) in
        subst (λ (b : Bool). Leads (IsBegin seat lock) (record (change.only (if b then In stages.Begun else Told (Word reply.AlreadyRemoving))) { word = Some (record { lock = lock; word = bit_or found 1 }); learns = Some (Removed lock) })) (sym test) done)
        (λ odd.
        let test : (found % 2 == 0) ≡ false = ne_eqb (found % 2) 0 odd in
        let after : SeatValue = after_step saw_step which rules.tells own in
        let done = begins_so saw_step watch (record watch { saw = set watch.saw lock true }) at room refl refl refl refl
        (ap (λ (b : Bool). Observer (if b then record watch { began = set watch.began lock true } else record watch { saw = set watch.saw lock true })) test)
        (learned_saw key.locks own after watch is lock few within refl)
        (sym (ap (λ (b : Bool). if b then In stages.Begun else Told (Word reply.AlreadyRemoving)) test)) in
        subst (λ (b : Bool). Leads (IsBegin seat lock) (record (change.only (if b then In stages.Begun else Told (Word reply.AlreadyRemoving))) { word = Some (record { lock = lock; word = bit_or found 1 }); learns = Some (Removed lock) })) (sym test) done))

  module _ (before : tried acts own ≡ None) where
    -- the observer's look, where the step of the machine and what is known behind it are these
    looks_so : (step : Change) (watch watch_2 : Watch) → get_elem? table.views seat ≡ some (Observer watch)
        → step.word ≡ None → step.gives ≡ None → tried acts (after_step step which rules.tells own) ≡ None → (after_step step which rules.tells own).held ≡ own.held
        → looked lock found (Observer watch) ≡ Observer watch_2 → IsLearned key.locks (after_step step which rules.tells own) watch_2
        → step.after ≡ Told (Word (if found == 1 then reply.Yes else reply.Busy found)) → Leads (IsLook seat lock) step
    looks_so step watch watch_2 at wrote gone behind same view_is learned answered =
        let after : SeatValue = after_step step which rules.tells own in
        let done = looks_at key table r.kept r.homes lock within seat watch at in
        let shift = observer_shift rules standing key table r seat below watch watch_2 at after same
        (quiet_tries rules standing key table r seat below which after before behind) (quiet_busy rules standing key table r seat below which after same before behind)
        learned (there_below table.views seat (Observer watch) at) in
        let kept = subst (λ (view : View). Kept key (moved table lock found seat view)) view_is done.kept in
        let words : set table.words lock found ≡ (after_change seat step which rules.tells standing).words =
        set-get_or table.words lock 0 ∙ (r.words ∙ (λ i. with_word (sym wrote i) standing.words)) in
        let seats : (after_change seat step which rules.tells standing).seats ≡ set standing.seats seat after =
        (λ i. with_given (gone i) (with_item seat after standing.seats)) ∙ item_set seat after standing.seats below in
        let stands = shifted rules standing key table r seat below (after_change seat step which rules.tells standing) (set table.words lock found) (set table.views seat (Observer watch_2)) after kept words seats shift in (
          moved table lock found seat (looked lock found (Observer watch)),
          record { watch = watch; takes = (at, refl, done.event); writes = wrote; after = answered },
          subst (λ (view : View). StandsFor rules (after_change seat step which rules.tells standing) key (moved table lock found seat view)) (sym view_is) stands,
        )

    abbrev yes_step : Change
    yes_step = record (change.told reply.Yes) { learns = Some (Drained lock) }

    abbrev busy_step : Change
    busy_step = change.told (reply.Busy found)

    abbrev watch_with : Watch → List Bool → Watch
    watch_with watch drained = record watch { drained = drained; looks = (watch.looks + 1) % 2 ^ 64; lock = lock; word = found }

    pub looks : Leads (IsLook seat lock) (change.looking found lock)
    looks =
        let watches = r.observers seat below in
        let watch = watches.0 in
        let at = watches.1 in
        let is = watches.2 in
        let few = r.few_locks in
        by_test (Leads (IsLook seat lock)) (found == 1) yes_step busy_step
        (λ test. looks_so yes_step watch (watch_with watch (set watch.drained lock true)) at refl refl refl refl
        (ap (λ (b : Bool). Observer (watch_with watch (if b then set watch.drained lock true else watch.drained))) test)
        (learned_drained key.locks own (after_step yes_step which rules.tells own) watch is lock few within (watch_with watch (set watch.drained lock true)) refl refl refl refl)
        (sym (ap (λ (b : Bool). Told (Word (if b then reply.Yes else reply.Busy found))) test)))
        (λ test. looks_so busy_step watch (watch_with watch watch.drained) at refl refl refl refl
        (ap (λ (b : Bool). Observer (watch_with watch (if b then set watch.drained lock true else watch.drained))) test)
        (learned_nothing key.locks own (after_step busy_step which rules.tells own) watch is lock few within (watch_with watch watch.drained) refl refl refl refl)
        (sym (ap (λ (b : Bool). Told (Word (if b then reply.Yes else reply.Busy found))) test)))
