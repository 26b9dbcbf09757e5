-- As steps begin, a table stands for where the script stands, and so one does behind each order.
use Rattle.std.proofs.Common.{◌≡◌, ℕ, zero, suc, ◌+◌, ◌*◌, ◌<◌, ◌≤◌, Bool, true, false, ◌||◌, List, [], ◌∷◌, ◌++◌, length, get_or, set, replicate, Option, Some, None, if◌then◌else◌, refl, sym, ap, ◌∙◌, subst, arith, length-set}
use Rattle.std.specs.Prelude.{nat_lt}
use mathlib.Core.Option.{some}
use lib.ListN.{get_elem?}
use Rattle.irp_types.specs.declared.names.IrpRef.{IrpRef}
use Rattle.irp_transcript.specs.declared.header.Header.{Header}
use Rattle.irp_remove.specs.declared.views.View.{View}
use Rattle.irp_remove.specs.declared.views.Parties.{Parties}
use Rattle.irp_remove.specs.Core.{Kept, total, flag, began, staked, saw, knows_drained, observers, stakes, new_observer, new_stake, new_watch}
use Rattle.irp_remove.proofs.Observing.{blank_observer, blank_stake}
use Rattle.irp_plain.specs.Lists.{with_item}
use Rattle.irp_plain.specs.declared.parts.Change.{Change}
use Rattle.irp_plain.specs.declared.parts.Given.{Given}
use Rattle.irp_plain.specs.declared.parts.ActPlace.{ActPlace}
use Rattle.irp_machine.specs.declared.parts.Planned.{Planned}
use Rattle.irp_machine.specs.Machine.{RulesValue, StepsTo, act_of, seat_at, stepped}
use Rattle.irp_machine.specs.Next.{next_of}
use Rattle.irp_machine.specs.Openings.{MakesAll, begun, rules_of}
use Rattle.irp_plain.specs.Seats.{SeatValue, new_seat, after_step, with_held}
use Rattle.irp_machine.specs.Standings.{ManagerValue, StandingValue, after_change, with_given}
use Rattle.irp_machine_laws.specs.Hands.{HandsLand}
use Rattle.irp_machine_laws.specs.LockLaws.{LockOpeningLaw, LockOrderLaw, Follows}
use Rattle.irp_machine_laws.specs.LockTables.{LockTable, StandsFor, IsLearned, of_stake, one_each, holding_at, holds, trying_at, tries, busy_at, keeps_busy}
use Rattle.irp_machine_laws.specs.Seats.{over_seats}
use Rattle.irp_machine_laws.proofs.Hands.{hands_land}
use Rattle.irp_machine_laws.proofs.LockLaw.{lock_step_law}

-- ---- views and seats that nobody has touched

abbrev fresh : ℕ → ℕ → List View
fresh count idle = replicate count new_observer ++ replicate idle new_stake

total_stakes : (f : View → ℕ) (idle : ℕ) → total f (replicate idle new_stake) ≡ idle * f new_stake
total_stakes f zero = omega arith
total_stakes f (suc idle) = let rest = total_stakes f idle in omega arith

total_fresh : (f : View → ℕ) (count idle : ℕ) → total f (fresh count idle) ≡ count * f new_observer + idle * f new_stake
total_fresh f zero idle = let rest = total_stakes f idle in omega arith
total_fresh f (suc count) idle = let rest = total_fresh f count idle in omega arith

none_stakes : (f : View → ℕ) (idle : ℕ) → f new_stake ≡ 0 → total f (replicate idle new_stake) ≡ 0
none_stakes f zero b = refl
none_stakes f (suc idle) b = let rest = none_stakes f idle b in omega arith

nothing : (f : View → ℕ) (count idle : ℕ) → f new_observer ≡ 0 → f new_stake ≡ 0 → total f (fresh count idle) ≡ 0
nothing f zero idle a b = none_stakes f idle b
nothing f (suc count) idle a b = let rest = nothing f count idle a b in omega arith

zeros : (n k : ℕ) → get_or (replicate n zero) k zero ≡ zero
zeros zero k = refl
zeros (suc n) zero = refl
zeros (suc n) (suc k) = zeros n k

long : {X : Type 0} (n : ℕ) (x : X) → length (replicate n x) ≡ n
long zero x = refl
long (suc n) x = ap suc (long n x)

false_at : (n k : ℕ) → flag (replicate n false) k ≡ false
false_at zero k = refl
false_at (suc n) zero = refl
false_at (suc n) (suc k) = false_at n k

pub seats_new : (n k : ℕ) → get_or (replicate n new_seat) k new_seat ≡ new_seat
seats_new zero k = refl
seats_new (suc n) zero = refl
seats_new (suc n) (suc k) = seats_new n k

observer_at : (count idle seat : ℕ) → seat < count → get_elem? (fresh count idle) seat ≡ some new_observer
observer_at zero idle seat less = absurd (omega arith)
observer_at (suc count) idle zero less = refl
observer_at (suc count) idle (suc seat) less = observer_at count idle seat (omega arith)

pub seats_nothing : (f : List Planned → SeatValue → ℕ) → ((acts : List Planned) → f acts new_seat ≡ 0) → (acts : List (List Planned)) (n : ℕ) → over_seats f acts (replicate n new_seat) ≡ 0
seats_nothing f none acts zero = refl
seats_nothing f none [] (suc n) = let rest = seats_nothing f none [] n in let here = none [] in omega arith
seats_nothing f none (own ∷ acts) (suc n) = let rest = seats_nothing f none acts n in let here = none own in omega arith

kept_fresh : (locks count idle : ℕ) → count ≤ 64 → idle ≤ 4096
    → Kept (record { locks = locks; observers = count; stakes = idle }) (record { words = replicate locks 0; homes = []; views = fresh count idle })
kept_fresh locks count idle few_count few_idle =
    let none_began : (k : ℕ) → total (began k) (fresh count idle) ≡ 0 = λ k. nothing (began k) count idle (blank_observer k).began_none (blank_stake k).began_none in
    let none_staked : (k : ℕ) → total (staked k) (fresh count idle) ≡ 0 = λ k. nothing (staked k) count idle (blank_observer k).staked_none (blank_stake k).staked_none in
    let none_saw : (k : ℕ) → total (saw k) (fresh count idle) ≡ 0 = λ k. nothing (saw k) count idle (blank_observer k).saw_none (blank_stake k).saw_none in
    let none_knows : (k : ℕ) → total (knows_drained k) (fresh count idle) ≡ 0 = λ k. nothing (knows_drained k) count idle (blank_observer k).knows_none (blank_stake k).knows_none in
    record {
      wide = long locks 0;
      word_is = λ k less. omega (arith, zeros locks k, none_began k, none_staked k);
      once = λ k. omega (arith, none_began k);
      seen = λ k some. absurd (omega (arith, none_saw k, some));
      drained = λ k some. absurd (omega (arith, none_knows k, some));
      all_observers = let sum = total_fresh observers count idle in omega (arith, sum);
      all_stakes = let sum = total_fresh stakes count idle in omega (arith, sum);
      few_observers = few_count;
      few_stakes = few_idle;
    }

knows_nothing : (locks : ℕ) (seat : SeatValue) → seat ≡ new_seat → IsLearned locks seat new_watch
knows_nothing locks seat is = subst (λ (s : SeatValue). IsLearned locks s new_watch) (sym is) (record {
  removed = λ lock less. sym (λ i. false_at 64 lock i || false_at 64 lock i);
  drained = λ lock less. sym (false_at 64 lock);
  began_flags = long 64 false;
  saw_flags = long 64 false;
  drained_flags = long 64 false;
})

stands_fresh : (rules : RulesValue) (header : Header) (manager : ManagerValue) (labels : List IrpRef) → header.locks ≤ 64 → header.seats < 64 → (idle : ℕ) → idle ≡ 4096
    → StandsFor rules (begun header manager labels) (record { locks = header.locks; observers = header.seats; stakes = idle })
    (record { words = replicate header.locks 0; homes = []; views = fresh header.seats idle })
stands_fresh rules header manager labels few_locks few_seats idle is =
    let seats_long : length (replicate header.seats new_seat) ≡ header.seats = long header.seats new_seat in
    let of_stakes : (f : Rattle.irp_remove.specs.declared.views.Stage.Stage → ℕ) → total (of_stake f) (fresh header.seats idle) ≡ header.seats * 0 + idle * f Rattle.irp_remove.specs.declared.views.Stage.TheVariants.Idle =
    λ f. total_fresh (of_stake f) header.seats idle in
    record {
      kept = kept_fresh header.locks header.seats idle (omega arith) (omega arith);
      words = refl;
      homes = refl;
      observers = λ seat less.
          (new_watch, observer_at header.seats idle seat (omega arith), knows_nothing header.locks (get_or (replicate header.seats new_seat) seat new_seat) (seats_new header.seats seat));
      held_is = λ lock tag. let a = nothing (of_stake (holding_at lock tag)) header.seats idle refl refl in let b = seats_nothing (holds lock tag) (λ acts. refl) rules.acts header.seats in omega arith;
      tried_is = λ lock. let a = nothing (of_stake (trying_at lock)) header.seats idle refl refl in let b = seats_nothing (tries lock) (λ acts. refl) rules.acts header.seats in omega arith;
      busy_is = let a = nothing (of_stake busy_at) header.seats idle refl refl in let b = seats_nothing keeps_busy (λ acts. refl) rules.acts header.seats in omega arith;
      inside = λ lock some. let a = nothing (of_stake (trying_at lock)) header.seats idle refl refl in absurd (omega arith);
      few_held = λ seat. let same = ap (λ (s : SeatValue). length s.held) (seats_new header.seats seat) in omega arith;
      few_locks = few_locks;
      few_seats = omega arith;
      all_made = let sum = of_stakes one_each in omega arith;
    }

pub lock_opening_law : LockOpeningLaw
lock_opening_law rules header manager labels few_locks few_seats = (
  record { locks = header.locks; observers = header.seats; stakes = 4096 },
  record { words = replicate header.locks 0; homes = []; views = fresh header.seats 4096 },
  refl,
  refl,
  stands_fresh rules header manager labels few_locks few_seats 4096 refl,
)

-- ---- orders

item_long : {X : Type 0} (place : ℕ) (item : X) (items : List X) → length (with_item place item items) ≡ length items
item_long {X = X} place item items = pick (nat_lt place (length items))
  where
    pick : (test : Bool) → length (if test then set items place item else items) ≡ length items
    pick true = length-set items place item
    pick false = refl

given_long : (given : Option Given) (seats : List SeatValue) → length (with_given given seats) ≡ length seats
given_long None seats = refl
given_long (Some given) seats = item_long given.seat (with_held given.held (get_or seats given.seat new_seat)) seats

-- how many seats there are stays
pub same_seats : (seat : ℕ) (step : Change) (which : ActPlace) (tells : Bool) (old : StandingValue) → length (after_change seat step which tells old).seats ≡ length old.seats
same_seats seat step which tells old =
    let after : SeatValue = after_step step which tells (get_or old.seats seat new_seat) in
    given_long step.gives (with_item seat after old.seats) ∙ item_long seat after old.seats

module _ (rules : RulesValue) (key : Parties) where
  -- an order from where a table stands for where the script stands
  Goes : StandingValue → LockTable → List ℕ → StandingValue → Type 0
  Goes old table path new = (last : LockTable) × Follows rules old table path new last × StandsFor rules new key last

  -- the next step of a seat, and an order behind it
  step_first : (path : List ℕ) (old new middle : StandingValue) (table : LockTable) (seat : ℕ) → HandsLand rules.acts (length old.seats) → StandsFor rules old key table
      → (found : Option Planned) → act_of rules old seat ≡ found → StepsTo rules old seat found (Some middle)
      → ((after : LockTable) → HandsLand rules.acts (length middle.seats) → StandsFor rules middle key after → Goes middle after path new) → Goes old table (seat ∷ path) new
  unfolding Goes
  step_first path old new middle table seat lands stands None is steps on = absurd (let bad : ⊥ = cc in bad)
  step_first path old new middle table seat lands stands (Some planned) is steps on =
      let one : StandingValue = steps.0 in
      let told : Some middle ≡ Some one = steps.1 in
      let same : middle ≡ one = cc in
      let step : Change = steps.2.0 in
      let lead : middle ≡ stepped rules old seat planned (next_of old (seat_at old seat) planned) step steps.2.1 = same ∙ steps.2.2 in
      let done = lock_step_law rules old key table seat planned step lands stands is steps.2.1 in
      let seats : length middle.seats ≡ length old.seats = ap (λ (s : StandingValue). length s.seats) lead ∙ same_seats seat step planned.place rules.tells old in
      let rest = on done.0 (subst (λ (n : ℕ). HandsLand rules.acts n) (sym seats) lands) (subst (λ (s : StandingValue). StandsFor rules s key done.0) (sym lead) done.2) in
      (rest.0, (middle, done.0, record { planned = planned; step = step; act = is; next = steps.2.1; leads = lead; at = done.1 }, rest.1), rest.2)

  pub goes : (path : List ℕ) (old new : StandingValue) (table : LockTable) → HandsLand rules.acts (length old.seats) → StandsFor rules old key table → MakesAll rules old path new
      → (last : LockTable) × Follows rules old table path new last × StandsFor rules new key last
  unfolding Goes
  goes [] old new table lands stands makes = (table, (makes, refl), subst (λ (s : StandingValue). StandsFor rules s key table) makes stands)
  goes (seat ∷ path) old new table lands stands makes =
      step_first path old new makes.0 table seat lands stands (act_of rules old seat) refl makes.1 (λ after lands_2 stands_2. goes path makes.0 new after lands_2 stands_2 makes.2)

pub lock_order_law : LockOrderLaw
lock_order_law header script rivals steps tells start path new order =
    let rules : RulesValue = rules_of header script rivals steps tells in
    let opens = order.opens in
    let opened = lock_opening_law rules header opens.0.manager opens.0.labels order.few_locks order.few_seats in
    let key : Parties = opened.0 in
    let table : LockTable = opened.1 in
    let stands : StandsFor rules start key table = subst (λ (s : StandingValue). StandsFor rules s key table) (sym opens.2) opened.4 in
    let seats : length start.seats ≡ header.seats = ap (λ (s : StandingValue). length s.seats) opens.2 ∙ long header.seats new_seat in
    let lands = subst (λ (n : ℕ). HandsLand rules.acts n) (sym seats) (hands_land header.seats rivals steps script.seats order.hands) in
    let done = goes rules key path start new table lands stands order.makes in
    (key, table, done.0, opened.2, stands, done.1, done.2)
