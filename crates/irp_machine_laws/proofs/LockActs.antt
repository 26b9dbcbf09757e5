-- Each act at a remove lock is a step at the table that the machine stands for.
use Rattle.std.proofs.Common.{◌≡◌, ◌≢◌, ◌⊎◌, inl, inr, ℕ, zero, suc, ◌+◌, ◌-◌, ◌%◌, ◌<◌, ◌≤◌, Bool, true, false, ◌&&◌, eqb, eq-eqb, ne_eqb, List, [], ◌∷◌, ◌++◌, length, get_or, set, Option, Some, None, if◌then◌else◌, refl, sym, ap, ◌∙◌, subst, arith, length-append}
use Rattle.std.specs.Prelude.{nat_eq, ◌==◌, position}
use Rattle.std.specs.List.{remove}
use Rattle.std.specs.Option.{option_map_or}
use Rattle.std.proofs.lemmas.Bool.{eqb-true, lt-leb, lt-ltb, le-ltb}
use Rattle.std.proofs.lemmas.List.Edits.{length-remove}
use Rattle.std.proofs.lemmas.List.Quantifiers.{position-Some}
use mathlib.Core.Option.{some}
use lib.ListN.{get_elem?}
use Rattle.irp_transcript.specs.declared.word_line.WordReply.{WordReply}
use Rattle.irp_transcript.specs.declared.word_line.WordReply.TheVariants as reply
use Rattle.irp_remove.specs.declared.views.Stage.TheVariants.{Idle, Trying, Held}
use Rattle.irp_remove.specs.declared.views.View.{View}
use Rattle.irp_remove.specs.declared.views.View.TheVariants.{First, Observer, Stake}
use Rattle.irp_remove.specs.declared.views.Parties.{Parties}
use Rattle.irp_remove.specs.Core.{Kept, acquired}
use Rattle.irp_remove.proofs.Knowing.{acquired_clear, acquired_taken, trying_here, trying_else, held_here, held_else}
use Rattle.irp_plain.specs.declared.parts.After.TheVariants.{In, Told}
use Rattle.irp_plain.specs.declared.parts.Change.{Change}
use Rattle.irp_plain.specs.declared.parts.Held.{Held as Reference}
use Rattle.irp_plain.specs.declared.parts.ActPlace.{ActPlace}
use Rattle.irp_machine.specs.Conditions.{act_now}
use Rattle.irp_machine.specs.declared.parts.Planned.{Planned}
use Rattle.irp_plain.specs.declared.parts.Stage.{Stage}
use Rattle.irp_plain.specs.declared.parts.Stage.TheVariants as stages
use Rattle.irp_plain.specs.declared.answered.Answered.TheVariants.{Word}
use Rattle.irp_plain.specs.Changes as change
use Rattle.irp_plain.specs.Lists.{with_item, with_more, without}
use Rattle.irp_machine.specs.Machine.{RulesValue}
use Rattle.irp_plain.specs.Seats.{SeatValue, new_seat, is_held, after_step}
use Rattle.irp_machine.specs.Standings.{StandingValue, after_change, with_given, with_word}
use Rattle.irp_machine_laws.specs.Seats.{one_if}
use Rattle.irp_machine_laws.specs.LockTables.{LockTable, StandsFor, of_stake, holding_at, trying_at, references, holds, tried, tried_at, tries, keeps_busy}
use Rattle.irp_machine_laws.specs.LockSteps.{moved, IsRefused, IsAcquire, IsGivenBack, is_refusal}
use Rattle.irp_machine_laws.proofs.Sums.{some_view, idle_stake, part_of_seats, busy_bound}
use Rattle.irp_machine_laws.proofs.LockMoves.{word_small, adds, two_there, gives_up}
use Rattle.irp_machine_laws.proofs.LockShift.{item_set, Shift, shifted, stake_shift, still_shift}
use Rattle.irp_machine_laws.proofs.Leaves.{is_trying, Leaves, told_leaves}

-- ---- small facts

pub by_test : (P : Change → Type 0) (test : Bool) (one other : Change) → (test ≡ true → P one) → (test ≡ false → P other) → P (if test then one else other)
by_test P true one other first second = first refl
by_test P false one other first second = second refl

pub by_found : {X : Type 0} (P : Change → Type 0) (found : Option X) (of : X → Change) (other : Change) → ((item : X) → found ≡ Some item → P (of item)) → (found ≡ None → P other) → P (option_map_or of found other)
by_found P None of other first second = second refl
by_found P (Some item) of other first second = first item refl

-- a seat that is at no try tries nothing
pub not_tried : (stage : Stage) (act : Option Planned) → is_trying stage ≡ false → tried_at stage act ≡ None
not_tried stages.Tried act still = absurd (let e : ⊥ = cc in e)
not_tried other act still = refl

-- a seat that tries nothing keeps no stake busy so, and one that tries a lock one
pub none_tried : (found : Option ℕ) → found ≡ None → option_map_or {T = ℕ} {U = ℕ} (λ one. 1) found 0 ≡ 0
none_tried found e = ap (λ (o : Option ℕ). option_map_or {T = ℕ} {U = ℕ} (λ one. 1) o 0) e

pub one_tried : (found : Option ℕ) (lock : ℕ) → found ≡ Some lock → option_map_or {T = ℕ} {U = ℕ} (λ one. 1) found 0 ≡ 1
one_tried found lock e = ap (λ (o : Option ℕ). option_map_or {T = ℕ} {U = ℕ} (λ one. 1) o 0) e

both : (a b : Bool) → (a && b) ≡ true → (a ≡ true) × (b ≡ true)
both true true e = (refl, refl)
both true false e = absurd (let no : ⊥ = cc in no)
both false b e = absurd (let no : ⊥ = cc in no)

some_if : (b : Bool) → 0 < one_if b → b ≡ true
some_if true less = refl
some_if false less = absurd (omega arith)

-- a view that counts as one that holds the lock under the tag is one
pub holding_view : (lock tag : ℕ) (view : View) → 0 < of_stake (holding_at lock tag) view → (seen : List ℕ) × (view ≡ Stake (Held lock tag) seen)
holding_view lock tag (First observers_left stakes_left) less = absurd (omega arith)
holding_view lock tag (Observer watch) less = absurd (omega arith)
holding_view lock tag (Stake Idle seen) less = absurd (omega arith)
holding_view lock tag (Stake (Trying one) seen) less = absurd (omega arith)
holding_view lock tag (Stake (Held one under) seen) less =
    let parts = both (eqb one lock) (eqb under tag) (some_if (eqb one lock && eqb under tag) less) in
    let a = eqb-true one lock parts.0 in
    let b = eqb-true under tag parts.1 in
    (seen, λ i. Stake (Held (a i) (b i)) seen)

pub trying_view : (lock : ℕ) (view : View) → 0 < of_stake (trying_at lock) view → (seen : List ℕ) × (view ≡ Stake (Trying lock) seen)
trying_view lock (First observers_left stakes_left) less = absurd (omega arith)
trying_view lock (Observer watch) less = absurd (omega arith)
trying_view lock (Stake Idle seen) less = absurd (omega arith)
trying_view lock (Stake (Trying one) seen) less =
    let a = eqb-true one lock (some_if (eqb one lock) less) in (seen, λ i. Stake (Trying (a i)) seen)
trying_view lock (Stake (Held one under) seen) less = absurd (omega arith)

pub references_more : (lock tag : ℕ) (held : List Reference) (one : Reference) → references lock tag (held ++ one ∷ []) ≡ references lock tag held + one_if (is_held lock tag one)
references_more lock tag [] one = omega arith
references_more lock tag (first ∷ held) one = let rest = references_more lock tag held one in omega arith

pub references_less : (lock tag : ℕ) (held : List Reference) (place : ℕ) (d : Reference) → place < length held
    → references lock tag (remove held place) + one_if (is_held lock tag (get_or held place d)) ≡ references lock tag held
references_less lock tag [] place d less = absurd (omega arith)
references_less lock tag (first ∷ held) zero d less = omega arith
references_less lock tag (first ∷ held) (suc place) d less = let rest = references_less lock tag held place d (omega arith) in omega arith

-- a reference to a lock under a tag counts as a stake that holds it
pub counts_as : (lock tag : ℕ) (one : Reference) → is_held lock tag one ≡ true → (k under : ℕ) → one_if (is_held k under one) ≡ holding_at k under (Held lock tag)
counts_as lock tag one is k under =
    let parts = both (eqb one.lock lock) (eqb one.tag tag) is in
    let a = eqb-true one.lock lock parts.0 in
    let b = eqb-true one.tag tag parts.1 in
    λ i. one_if (eqb (a i) k && eqb (b i) under)

module _ (rules : RulesValue) (standing : StandingValue) (key : Parties) (table : LockTable) (r : StandsFor rules standing key table) (seat : ℕ) (below : seat < length standing.seats)
    (which : ActPlace) where
  abbrev own : SeatValue
  own = get_or standing.seats seat new_seat

  abbrev acts : List Planned
  acts = get_or rules.acts seat []

  -- what a step leads to
  abbrev pub After : (Change → LockTable → LockTable → Type 0) → Change → Type 0
  After kind step = (new : LockTable) × kind step table new × StandsFor rules (after_change seat step which rules.tells standing) key new

  -- where the seat tries nothing before and behind a step
  pub quiet_tries : (after : SeatValue) → tried acts own ≡ None → tried acts after ≡ None → (lock : ℕ) → tries lock acts after ≡ tries lock acts own
  quiet_tries after before behind lock = ap (λ found. option_map_or (λ one. one_if (nat_eq one lock)) found 0) (behind ∙ sym before)

  pub quiet_busy : (after : SeatValue) → after.held ≡ own.held → tried acts own ≡ None → tried acts after ≡ None → keeps_busy acts after ≡ keeps_busy acts own
  quiet_busy after same before behind = λ i. length (same i) + option_map_or (λ one. 1) ((behind ∙ sym before) i) 0

  -- a step that leaves the locks leaves the table
  pub leaves : (step : Change) → Leaves step → tried acts own ≡ None → StandsFor rules (after_change seat step which rules.tells standing) key table
  leaves step gone before =
      let after : SeatValue = after_step step which rules.tells own in
      let held : after.held ≡ own.held = λ i. with_more (gone.2 i) (without (gone.1 i) own.held) in
      let learned : after.learned ≡ own.learned = λ i. with_more (gone.4 i) own.learned in
      let behind : tried acts after ≡ None = not_tried after.stage (act_now acts after) gone.5 in
      let shift = still_shift rules standing key table r seat below after held (quiet_tries after before behind) (quiet_busy after held before behind) learned in
      let words : table.words ≡ (after_change seat step which rules.tells standing).words =
      r.words ∙ (λ i. with_word (sym gone.0 i) standing.words) in
      let seats : (after_change seat step which rules.tells standing).seats ≡ set standing.seats seat after =
      (λ i. with_given (gone.3 i) (with_item seat after standing.seats)) ∙ item_set seat after standing.seats below in
      shifted rules standing key table r seat below (after_change seat step which rules.tells standing) table.words table.views after r.kept words seats shift

  -- a refusal leaves it too
  pub refuses : (answer : WordReply) → is_refusal answer ≡ true → tried acts own ≡ None → After IsRefused (change.told answer)
  refuses answer plain before = (table, (answer, plain, refl, (refl, refl)), leaves (change.told answer) (told_leaves answer) before)

  -- a step that writes a word and changes one party's view
  pub writes : (step : Change) (lock word party : ℕ) (view : View) → lock < length standing.words → step.word ≡ Some (record { lock = lock; word = word }) → step.gives ≡ None
      → Kept key (moved table lock word party view) → Shift rules standing key table r seat below (set table.views party view) (after_step step which rules.tells own)
      → StandsFor rules (after_change seat step which rules.tells standing) key (moved table lock word party view)
  writes step lock word party view less wrote gone kept shift =
      let after : SeatValue = after_step step which rules.tells own in
      let words : set table.words lock word ≡ (after_change seat step which rules.tells standing).words =
      ap (λ (ws : List ℕ). set ws lock word) r.words ∙ (sym (item_set lock word standing.words less) ∙ (λ i. with_word (sym wrote i) standing.words)) in
      let seats : (after_change seat step which rules.tells standing).seats ≡ set standing.seats seat after =
      (λ i. with_given (gone i) (with_item seat after standing.seats)) ∙ item_set seat after standing.seats below in
      shifted rules standing key table r seat below (after_change seat step which rules.tells standing) (set table.words lock word) (set table.views party view) after kept words seats shift

  -- ---- a lock that is there
  module _ (lock : ℕ) (less : lock < length standing.words) where
    abbrev found : ℕ
    found = get_or table.words lock 0

    pub inside : lock < key.locks
    inside = let wide = r.kept.wide in let same = ap length r.words in omega arith

    -- the machine adds 2 as the table does
    added_is : change.added found ≡ found + 2
    added_is = let small = word_small key table r.kept r.homes lock inside in
        ap (λ (b : Bool). if b then found else found + 2) (lt-leb 4611686018427387904 found (omega arith))

    -- a seat that tries nothing adds to the word
    module _ (tag : ℕ) (before : tried acts own ≡ None) (room : length own.held < 64) where
      idle : (party : ℕ) × (seen : List ℕ) × (get_elem? table.views party ≡ some (Stake Idle seen))
      idle =
          let most = busy_bound rules.acts standing.seats r.few_held in
          let few = r.few_seats in
          let busy_is = r.busy_is in
          let made = r.all_made in
          idle_stake table.views (omega arith)

      abbrev acquired_step : Change
      acquired_step = record (change.told reply.Acquired) {
        word = Some (record { lock = lock; word = found + 2 });
        holds = Some (record { lock = lock; tag = tag });
      }

      acquires_even : found % 2 ≡ 0 → After (IsAcquire lock tag) acquired_step
      acquires_even even =
          let party = idle.0 in
          let seen = idle.1 in
          let at = idle.2 in
          let after : SeatValue = after_step acquired_step which rules.tells own in
          let done = adds key table r.kept r.homes lock inside tag party seen at in
          let view_is : acquired tag lock found (Stake Idle seen) ≡ Stake (Held lock tag) seen = acquired_clear tag lock found seen (Stake Idle seen) refl even in
          let tries_same = quiet_tries after before refl in
          let shift = stake_shift rules standing key table r seat below party Idle (Held lock tag) seen seen at after
          (λ l t. let more = references_more l t own.held (record { lock = lock; tag = tag }) in omega arith)
          (λ l. let same = tries_same l in omega arith)
          (let long = length-append own.held (record { lock = lock; tag = tag } ∷ []) in let none = none_tried (tried acts own) before in omega arith)
          (λ l no. absurd (omega arith))
          (let long = length-append own.held (record { lock = lock; tag = tag } ∷ []) in omega arith)
          refl in
          let kept = subst (λ (view : View). Kept key (moved table lock (found + 2) party view)) view_is done.kept in
          let stands = writes acquired_step lock (found + 2) party (Stake (Held lock tag) seen) less refl refl kept shift in (
            moved table lock (found + 2) party (acquired tag lock found (Stake Idle seen)),
            record {
              party = party;
              seen = seen;
              takes = (at, refl, done.event);
              writes = refl;
              after = sym (ap (λ (b : Bool). if b then Told (Word reply.Acquired) else In stages.Tried) (eq-eqb (found % 2) 0 even));
            },
            subst (λ (view : View). StandsFor rules (after_change seat acquired_step which rules.tells standing) key (moved table lock (found + 2) party view)) (sym view_is) stands,
          )

      abbrev tried_step : Change
      tried_step = record (change.only (In stages.Tried)) { word = Some (record { lock = lock; word = found + 2 }) }

      acquires_odd : tried_at stages.Tried (act_now acts own) ≡ Some lock → found % 2 ≢ 0 → After (IsAcquire lock tag) tried_step
      acquires_odd behind odd =
          let party = idle.0 in
          let seen = idle.1 in
          let at = idle.2 in
          let after : SeatValue = after_step tried_step which rules.tells own in
          let done = adds key table r.kept r.homes lock inside tag party seen at in
          let view_is : acquired tag lock found (Stake Idle seen) ≡ Stake (Trying lock) (lock ∷ seen) = acquired_taken tag lock found seen (Stake Idle seen) refl odd in
          let none : (l : ℕ) → tries l acts own ≡ 0 = λ l. ap (λ o. option_map_or (λ one. one_if (nat_eq one l)) o 0) before in
          let one : (l : ℕ) → tries l acts after ≡ one_if (nat_eq lock l) = λ l. ap (λ o. option_map_or (λ one. one_if (nat_eq one l)) o 0) behind in
          let none_busy = none_tried (tried acts own) before in
          let one_busy = one_tried (tried acts after) lock behind in
          let shift = stake_shift rules standing key table r seat below party Idle (Trying lock) seen (lock ∷ seen) at after
          (λ l t. refl)
          (λ l. let a = none l in let b = one l in omega arith)
          (omega arith)
          (λ l some. subst (λ (k : ℕ). k < key.locks) (eqb-true lock l (some_if (eqb lock l) some)) inside)
          (omega arith)
          refl in
          let kept = subst (λ (view : View). Kept key (moved table lock (found + 2) party view)) view_is done.kept in
          let stands = writes tried_step lock (found + 2) party (Stake (Trying lock) (lock ∷ seen)) less refl refl kept shift in (
            moved table lock (found + 2) party (acquired tag lock found (Stake Idle seen)),
            record {
              party = party;
              seen = seen;
              takes = (at, refl, done.event);
              writes = refl;
              after = sym (ap (λ (b : Bool). if b then Told (Word reply.Acquired) else In stages.Tried) (ne_eqb (found % 2) 0 odd));
            },
            subst (λ (view : View). StandsFor rules (after_change seat tried_step which rules.tells standing) key (moved table lock (found + 2) party view)) (sym view_is) stands,
          )

      -- an acquire's first step
      pub acquires : tried_at stages.Tried (act_now acts own) ≡ Some lock → After (IsAcquire lock tag) (change.acquire found lock tag)
      acquires behind =
          let pick : ℕ → Change = λ word.
          if found % 2 == 0 then record (change.told reply.Acquired) {
            word = Some (record { lock = lock; word = word });
            holds = Some (record { lock = lock; tag = tag });
          }
          else record (change.only (In stages.Tried)) { word = Some (record { lock = lock; word = word }) } in
          subst (λ (word : ℕ). After (IsAcquire lock tag) (pick word)) (sym added_is)
          (by_test (After (IsAcquire lock tag)) (found % 2 == 0) acquired_step tried_step
          (λ even. acquires_even (eqb-true (found % 2) 0 even))
          (λ odd. acquires_odd behind (λ even. let unlike : true ≡ false = sym (eq-eqb (found % 2) 0 even) ∙ odd in cc)))

    -- the machine takes 2 off as the table does
    taken_is : 2 ≤ found → change.taken_from found ≡ found - 2
    taken_is enough = ap (λ (b : Bool). if b then found else found - 2) (le-ltb found 2 enough)

    -- a seat that tries the lock takes back what it added
    module _ (now : tried acts own ≡ Some lock) where
      abbrev missed_step : Change
      missed_step = record (change.told reply.DeletePending) { word = Some (record { lock = lock; word = found - 2 }) }

      takes_back : After (IsGivenBack lock (Trying lock) reply.DeletePending) missed_step × (2 ≤ found)
      takes_back =
          let mine : tries lock acts own ≡ 1 = ap (λ o. option_map_or (λ one. one_if (nat_eq one lock)) o 0) now ∙ ap one_if (eq-eqb lock lock refl) in
          let part = part_of_seats (tries lock) rules.acts standing.seats seat below in
          let all = r.tried_is lock in
          let some_one = some_view (of_stake (trying_at lock)) table.views (omega arith) in
          let party = some_one.0 in
          let view = trying_view lock some_one.1 some_one.3 in
          let seen = view.0 in
          let at : get_elem? table.views party ≡ some (Stake (Trying lock) seen) = some_one.2 ∙ ap some view.1 in
          let after : SeatValue = after_step missed_step which rules.tells own in
          let done = gives_up key table r.kept r.homes lock inside party (Trying lock) seen at (trying_here lock) (trying_else lock) in
          let enough = two_there key table r.kept r.homes lock inside party (Trying lock) seen at (trying_here lock) in
          let own_busy = one_tried (tried acts own) lock now in
          let shift = stake_shift rules standing key table r seat below party (Trying lock) Idle seen seen at after
          (λ l t. refl)
          (λ l. let one : tries l acts own ≡ one_if (nat_eq lock l) = ap (λ o. option_map_or (λ one. one_if (nat_eq one l)) o 0) now in omega arith)
          (omega arith)
          (λ l no_more. absurd (omega arith))
          (r.few_held seat)
          refl in
          let stands = writes missed_step lock (found - 2) party (Stake Idle seen) less refl refl done.kept shift in
          ((moved table lock (found - 2) party (Stake Idle seen), record { party = party; seen = seen; takes = (at, refl, done.event); writes = refl; after = refl }, stands), enough)

      pub missed : After (IsGivenBack lock (Trying lock) reply.DeletePending) (record (change.told reply.DeletePending) { word = Some (record { lock = lock; word = change.taken_from found }) })
      missed = subst (λ (word : ℕ). After (IsGivenBack lock (Trying lock) reply.DeletePending) (record (change.told reply.DeletePending) { word = Some (record { lock = lock; word = word }) }))
          (sym (taken_is takes_back.1)) takes_back.0

    -- a seat that tries nothing gives back the reference at a place
    module _ (tag place : ℕ) (before : tried acts own ≡ None) (held_here_is : position (is_held lock tag) own.held ≡ Some place) where
      abbrev back_step : ℕ → Change
      back_step word = record (change.told reply.Done) { word = Some (record { lock = lock; word = word }); drops = Some place }

      gives_it : After (IsGivenBack lock (Held lock tag) reply.Done) (back_step (found - 2)) × (2 ≤ found)
      gives_it =
          let blank : Reference = record { lock = lock; tag = tag } in
          let is = position-Some (is_held lock tag) own.held place blank held_here_is in
          let fewer = λ (l t : ℕ). references_less l t own.held place blank is.0 in
          let mine : one_if (is_held lock tag (get_or own.held place blank)) ≡ 1 = ap one_if is.1 in
          let fewer_here = fewer lock tag in
          let part = part_of_seats (holds lock tag) rules.acts standing.seats seat below in
          let all = r.held_is lock tag in
          let some_one = some_view (of_stake (holding_at lock tag)) table.views (omega arith) in
          let party = some_one.0 in
          let view = holding_view lock tag some_one.1 some_one.3 in
          let seen = view.0 in
          let at : get_elem? table.views party ≡ some (Stake (Held lock tag) seen) = some_one.2 ∙ ap some view.1 in
          let after : SeatValue = after_step (back_step (found - 2)) which rules.tells own in
          let done = gives_up key table r.kept r.homes lock inside party (Held lock tag) seen at (held_here lock tag) (held_else lock tag) in
          let enough = two_there key table r.kept r.homes lock inside party (Held lock tag) seen at (held_here lock tag) in
          let held_now : after.held ≡ remove own.held place = ap (λ (b : Bool). if b then remove own.held place else own.held) (lt-ltb place (length own.held) is.0) in
          let long : length after.held + 1 ≡ length own.held = ap (λ held. length held + 1) held_now ∙ length-remove own.held place is.0 in
          let tries_same = quiet_tries after before refl in
          let none = none_tried (tried acts own) before in
          let shift = stake_shift rules standing key table r seat below party (Held lock tag) Idle seen seen at after
          (λ l t.
          let a = fewer l t in
          let b = counts_as lock tag (get_or own.held place blank) is.1 l t in
          let c = ap (references l t) held_now in
          omega arith)
          (λ l. let same = tries_same l in omega arith)
          (omega arith)
          (λ l no_more. absurd (omega arith))
          (let few = r.few_held seat in omega arith)
          refl in
          let stands = writes (back_step (found - 2)) lock (found - 2) party (Stake Idle seen) less refl refl done.kept shift in
          ((moved table lock (found - 2) party (Stake Idle seen), record { party = party; seen = seen; takes = (at, refl, done.event); writes = refl; after = refl }, stands), enough)

      gives_back_it : After (IsGivenBack lock (Held lock tag) reply.Done) (change.given_back found lock place)
      gives_back_it = subst (λ (word : ℕ). After (IsGivenBack lock (Held lock tag) reply.Done) (back_step word)) (sym (taken_is gives_it.1)) gives_it.0

    -- a seat releases a reference where it has one
    pub releases : (tag : ℕ) → tried acts own ≡ None → After (λ step one new. IsRefused step one new ⊎ IsGivenBack lock (Held lock tag) reply.Done step one new) (change.releasing found own lock tag)
    releases tag before =
        by_found (After (λ step one new. IsRefused step one new ⊎ IsGivenBack lock (Held lock tag) reply.Done step one new))
        (position (is_held lock tag) own.held) (λ place. change.given_back found lock place) (change.told reply.NotHeld)
        (λ place here. let done = gives_back_it tag place before here in (done.0, inr done.1, done.2))
        (λ none. let done = refuses reply.NotHeld refl before in (done.0, inl done.1, done.2))
