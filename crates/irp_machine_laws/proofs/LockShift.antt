-- Where one seat and the views of a table change together, the table stands for the machine still.
use Rattle.std.proofs.Common.{◌≡◌, ◌≢◌, ℕ, ◌+◌, ◌<◌, ◌≤◌, Bool, List, [], length, get_or, set, if◌then◌else◌, refl, sym, ap, ◌∙◌, subst, arith, length-set, get_or-set_same, get_or-set_other}
use Rattle.std.specs.List.{list_any}
use Rattle.std.proofs.lemmas.Bool.{lt-ltb}
use mathlib.Core.Logic.{dite}
use mathlib.Core.Option.{some}
use native.Mathlib.Decide.{ℕ_discrete, dec_le}
use lib.ListN.{get_elem?}
use Rattle.atomic_table.proofs.Lists.{set_here, set_else}
use Rattle.irp_remove.specs.declared.views.Stage.{Stage}
use Rattle.irp_remove.specs.declared.views.Watch.{Watch}
use Rattle.irp_remove.specs.declared.views.View.{View}
use Rattle.irp_remove.specs.declared.views.View.TheVariants.{Observer, Stake}
use Rattle.irp_remove.specs.declared.views.Parties.{Parties}
use Rattle.irp_remove.specs.Core.{Kept, total}
use Rattle.irp_remove.proofs.Totals.{total_set}
use Rattle.irp_machine.specs.declared.parts.Planned.{Planned}
use Rattle.irp_plain.specs.Lists.{with_item}
use Rattle.irp_machine.specs.Machine.{RulesValue, seat_at}
use Rattle.irp_plain.specs.Seats.{SeatValue, new_seat, is_removed, is_drained}
use Rattle.irp_machine.specs.Standings.{StandingValue}
use Rattle.irp_machine_laws.specs.Seats.{over_seats}
use Rattle.irp_machine_laws.specs.LockTables.{LockTable, StandsFor, IsLearned, Observes, of_stake, one_each, holding, holding_at, trying, trying_at, busy, busy_at, references, holds, tries, keeps_busy}
use Rattle.irp_machine_laws.proofs.Sums.{over_set}

-- a place that is there gets its item
pub item_set : {X : Type 0} (place : ℕ) (item : X) (items : List X) → place < length items → with_item place item items ≡ set items place item
item_set place item items less = ap (λ (b : Bool). if b then set items place item else items) (lt-ltb place (length items) less)

-- what is learned stays
pub same_learned : (locks : ℕ) (one other : SeatValue) (watch : Watch) → other.learned ≡ one.learned → IsLearned locks one watch → IsLearned locks other watch
same_learned locks one other watch same is = record {
  removed = λ lock less. ap (list_any (is_removed lock)) same ∙ is.removed lock less;
  drained = λ lock less. ap (list_any (is_drained lock)) same ∙ is.drained lock less;
  began_flags = is.began_flags;
  saw_flags = is.saw_flags;
  drained_flags = is.drained_flags;
}

module _ (rules : RulesValue) (standing : StandingValue) (key : Parties) (table : LockTable) (r : StandsFor rules standing key table) (seat : ℕ) (below : seat < length standing.seats) where
  abbrev own : SeatValue
  own = get_or standing.seats seat new_seat

  abbrev acts : List Planned
  acts = get_or rules.acts seat []

  -- the views of the table and one seat change together
  pub record Shift (views : List View) (after : SeatValue) : Type 0 where
    pub held_by : (lock tag : ℕ) → holding lock tag views + references lock tag own.held ≡ holding lock tag table.views + references lock tag after.held
    pub tried_by : (lock : ℕ) → trying lock views + tries lock acts own ≡ trying lock table.views + tries lock acts after
    pub busy_by : busy views + keeps_busy acts own ≡ busy table.views + keeps_busy acts after
    pub made : total (of_stake one_each) views ≡ total (of_stake one_each) table.views
    pub inside : (lock : ℕ) → 0 < trying lock views → lock < key.locks
    pub few : length after.held ≤ 64
    pub observes : Observes key.locks after (get_elem? views seat)
    pub others : (other : ℕ) → other < length standing.seats → other ≢ seat → get_elem? views other ≡ get_elem? table.views other

  pub shifted : (new : StandingValue) (words : List ℕ) (views : List View) (after : SeatValue)
      → Kept key (record { words = words; homes = table.homes; views = views }) → words ≡ new.words → new.seats ≡ set standing.seats seat after → Shift views after
      → StandsFor rules new key (record { words = words; homes = table.homes; views = views })
  shifted new words views after kept same_words seats shift =
      let long : length new.seats ≡ length standing.seats = ap length seats ∙ length-set standing.seats seat after in
      let over : (f : List Planned → SeatValue → ℕ) → over_seats f rules.acts new.seats + f acts own ≡ over_seats f rules.acts standing.seats + f acts after =
      λ f. ap (λ (s : List SeatValue). over_seats f rules.acts s + f acts own) seats ∙ over_set f rules.acts standing.seats seat after below in
      let here : (other : ℕ) → other ≡ seat → seat_at new other ≡ after =
      λ other e. ap (seat_at new) e ∙ (ap (λ (s : List SeatValue). get_or s seat new_seat) seats ∙ get_or-set_same standing.seats seat after new_seat below) in
      let else_where : (other : ℕ) → other ≢ seat → seat_at new other ≡ seat_at standing other =
      λ other ne. ap (λ (s : List SeatValue). get_or s other new_seat) seats ∙ get_or-set_other standing.seats seat other after new_seat ne in
      record {
        kept = kept;
        words = same_words;
        homes = r.homes;
        observers = λ other less.
            let less_2 : other < length standing.seats = subst (λ (n : ℕ). other < n) long less in
            dite (ℕ_discrete other seat)
            (λ e.
            let one = subst (λ (s : SeatValue). Observes key.locks s (get_elem? views seat)) (sym (here other e)) shift.observes in
            subst (λ (k : ℕ). Observes key.locks (seat_at new other) (get_elem? views k)) (sym e) one)
            (λ ne.
            let one = subst (λ (s : SeatValue). Observes key.locks s (get_elem? table.views other)) (sym (else_where other ne)) (r.observers other less_2) in
            subst (λ (v : mathlib.Core.Option.Option View). Observes key.locks (seat_at new other) v) (sym (shift.others other less_2 ne)) one);
        held_is = λ lock tag. let a = r.held_is lock tag in let b = shift.held_by lock tag in let c = over (holds lock tag) in omega arith;
        tried_is = λ lock. let a = r.tried_is lock in let b = shift.tried_by lock in let c = over (tries lock) in omega arith;
        busy_is = let a = r.busy_is in let b = shift.busy_by in let c = over keeps_busy in omega arith;
        inside = shift.inside;
        few_held = λ other. dite (ℕ_discrete other seat)
            (λ e. subst (λ (s : SeatValue). length s.held ≤ 64) (sym (here other e)) shift.few)
            (λ ne. subst (λ (s : SeatValue). length s.held ≤ 64) (sym (else_where other ne)) (r.few_held other));
        few_locks = r.few_locks;
        few_seats = subst (λ (n : ℕ). n < 64) (sym long) r.few_seats;
        all_made = shift.made ∙ r.all_made;
      }

  -- a stake changes its stage
  module _ (party : ℕ) (one two : Stage) (seen seen_2 : List ℕ) (at : get_elem? table.views party ≡ some (Stake one seen)) where
    abbrev stake_views : List View
    stake_views = set table.views party (Stake two seen_2)

    is_no_seat : (other : ℕ) → other < length standing.seats → other ≢ party
    is_no_seat other less e =
        let watches = r.observers other less in
        let there : get_elem? table.views other ≡ some (Stake one seen) = ap (get_elem? table.views) e ∙ at in
        let is = watches.1 in
        cc

    pub stake_shift : (after : SeatValue)
        → ((lock tag : ℕ) → holding_at lock tag two + references lock tag own.held ≡ holding_at lock tag one + references lock tag after.held)
        → ((lock : ℕ) → trying_at lock two + tries lock acts own ≡ trying_at lock one + tries lock acts after)
        → busy_at two + keeps_busy acts own ≡ busy_at one + keeps_busy acts after
        → ((lock : ℕ) → 0 < trying_at lock two → lock < key.locks) → length after.held ≤ 64 → after.learned ≡ own.learned
        → Shift stake_views after
    stake_shift after held_same tried_same busy_same within few learned =
        let sum : (f : Stage → ℕ) → total (of_stake f) stake_views + f one ≡ total (of_stake f) table.views + f two =
        λ f. total_set (of_stake f) table.views party (Stake one seen) (Stake two seen_2) at in
        record {
          held_by = λ lock tag. let a = sum (holding_at lock tag) in let b = held_same lock tag in omega arith;
          tried_by = λ lock. let a = sum (trying_at lock) in let b = tried_same lock in omega arith;
          busy_by = let a = sum busy_at in omega arith;
          made = let a = sum one_each in omega arith;
          inside = λ lock some. let a = sum (trying_at lock) in
              dite (dec_le (trying_at lock two) 0)
              (λ none. r.inside lock (omega arith))
              (λ more. within lock (omega arith));
          few = few;
          observes =
              let watches = r.observers seat below in
              let away : get_elem? stake_views seat ≡ get_elem? table.views seat = set_else table.views party seat (Stake two seen_2) (is_no_seat seat below) in
              (watches.0, away ∙ watches.1, same_learned key.locks own after watches.0 learned watches.2);
          others = λ other less ne. set_else table.views party other (Stake two seen_2) (is_no_seat other less);
        }

  -- the observer of the seat changes what it knows
  module _ (watch watch_2 : Watch) (at : get_elem? table.views seat ≡ some (Observer watch)) where
    pub observer_shift : (after : SeatValue) → after.held ≡ own.held → ((lock : ℕ) → tries lock acts after ≡ tries lock acts own) → keeps_busy acts after ≡ keeps_busy acts own
        → IsLearned key.locks after watch_2 → seat < length table.views → Shift (set table.views seat (Observer watch_2)) after
    observer_shift after held_same tried_same busy_same learned room =
        let sum : (f : Stage → ℕ) → total (of_stake f) (set table.views seat (Observer watch_2)) + 0 ≡ total (of_stake f) table.views + 0 =
        λ f. total_set (of_stake f) table.views seat (Observer watch) (Observer watch_2) at in
        record {
          held_by = λ lock tag. let a = sum (holding_at lock tag) in let b = ap (references lock tag) held_same in omega arith;
          tried_by = λ lock. let a = sum (trying_at lock) in let b = tried_same lock in omega arith;
          busy_by = let a = sum busy_at in omega arith;
          made = let a = sum one_each in omega arith;
          inside = λ lock some. let a = sum (trying_at lock) in r.inside lock (omega arith);
          few = subst (λ held. length held ≤ 64) (sym held_same) (r.few_held seat);
          observes = (watch_2, set_here table.views seat (Observer watch_2) room, learned);
          others = λ other less ne. set_else table.views seat other (Observer watch_2) ne;
        }

  -- the table stays, and nothing that it tells of the seat changes
  pub still_shift : (after : SeatValue) → after.held ≡ own.held → ((lock : ℕ) → tries lock acts after ≡ tries lock acts own) → keeps_busy acts after ≡ keeps_busy acts own
      → after.learned ≡ own.learned → Shift table.views after
  still_shift after held_same tried_same busy_same learned = record {
    held_by = λ lock tag. let b = ap (references lock tag) held_same in omega arith;
    tried_by = λ lock. let b = tried_same lock in omega arith;
    busy_by = omega arith;
    made = refl;
    inside = r.inside;
    few = subst (λ held. length held ≤ 64) (sym held_same) (r.few_held seat);
    observes = let watches = r.observers seat below in (watches.0, watches.1, same_learned key.locks own after watches.0 learned watches.2);
    others = λ other less ne. refl;
  }
