-- Where one seat and the table of slots change together, the table stands for the machine still.
use Rattle.std.proofs.Common.{◌≡◌, ◌≢◌, ℕ, ◌+◌, ◌%◌, ◌<◌, Bool, true, false, eq-eqb, ne_eqb, List, [], length, get_or, set, Option, Some, None, if◌then◌else◌, refl, sym, ap, ◌∙◌, subst, arith, length-set, get_or-set_same, get_or-set_other}
use Rattle.std.specs.Prelude.{nat_lt}
use Rattle.std.proofs.lemmas.Bool.{ltb-true}
use mathlib.Core.Logic.{dite}
use mathlib.Core.Option.{Option as Found}
use native.Mathlib.Decide.{ℕ_discrete}
use lib.ListN.{get_elem?}
use Rattle.irp_slots.specs.declared.views.View.{View}
use Rattle.irp_slots.specs.declared.views.Parties.{Parties}
use Rattle.irp_slots.specs.Core.{Kept, content_of, flag_of}
use Rattle.irp_plain.specs.declared.parts.Change.{Change}
use Rattle.irp_plain.specs.declared.parts.Held.{Held}
use Rattle.irp_plain.specs.declared.parts.Given.{Given}
use Rattle.irp_plain.specs.declared.parts.ActPlace.{ActPlace}
use Rattle.irp_machine.specs.Conditions.{act_now}
use Rattle.irp_machine.specs.declared.parts.Planned.{Planned}
use Rattle.irp_plain.specs.declared.parts.Slot.{Slot}
use Rattle.irp_machine.specs.Machine.{RulesValue, seat_at}
use Rattle.irp_machine.specs.Openings.{empty_slot}
use Rattle.irp_plain.specs.Seats.{SeatValue, new_seat, after_step, with_held}
use Rattle.irp_machine.specs.Standings.{StandingValue, after_change, with_given}
use Rattle.irp_machine_laws.specs.Seats.{one_if, over_seats}
use Rattle.irp_machine_laws.specs.SlotTables.{SlotTable, StandsFor, IsOwned, IsAsking, asker_no, owner_no, asked_at, finds, found_at, is_at, put_at, puts}
use Rattle.irp_machine_laws.proofs.LockShift.{item_set}
use Rattle.irp_machine_laws.proofs.Sums.{over_set}

-- a number that a slot is not at counts nothing
pub none_at : (number : ℕ) (slot : Option ℕ) → slot ≡ None → is_at number slot ≡ 0
none_at number slot e = ap (is_at number) e

pub one_at : (number : ℕ) (slot : Option ℕ) → slot ≡ Some number → is_at number slot ≡ 1
one_at number slot e = ap (is_at number) e ∙ ap one_if (eq-eqb number number refl)

pub else_at : (number other : ℕ) (slot : Option ℕ) → slot ≡ Some number → other ≢ number → is_at other slot ≡ 0
else_at number other slot e ne = ap (is_at other) e ∙ ap one_if (ne_eqb number other (λ same. ne (sym same)))

-- what a measure makes of a seat that is given a reference, where it doesn't read what is held
over_given : (f : List Planned → SeatValue → ℕ) → ((acts : List Planned) (seat : SeatValue) (held : Held) → f acts (with_held held seat) ≡ f acts seat)
    → (acts : List (List Planned)) (given : Option Given) (seats : List SeatValue) → over_seats f acts (with_given given seats) ≡ over_seats f acts seats
over_given f same acts None seats = refl
over_given f same acts (Some given) seats = pick (nat_lt given.seat (length seats)) refl
  where
    taker : SeatValue
    taker = with_held given.held (get_or seats given.seat new_seat)

    pick : (test : Bool) → nat_lt given.seat (length seats) ≡ test → over_seats f acts (if test then set seats given.seat taker else seats) ≡ over_seats f acts seats
    pick true e =
        let sum = over_set f acts seats given.seat taker (ltb-true given.seat (length seats) e) in
        let here = same (get_or acts given.seat []) (get_or seats given.seat new_seat) given.held in
        omega arith
    pick false e = refl

-- a seat that is given a reference is where it was
given_place : (given : Option Given) (seats : List SeatValue) (other : ℕ)
    → ((get_or (with_given given seats) other new_seat).stage ≡ (get_or seats other new_seat).stage) × ((acts : List Planned) → act_now acts (get_or (with_given given seats) other new_seat) ≡ act_now acts (get_or seats other new_seat))
given_place None seats other = (refl, λ acts. refl)
given_place (Some given) seats other = pick (nat_lt given.seat (length seats)) refl
  where
    taker : SeatValue
    taker = with_held given.held (get_or seats given.seat new_seat)

    pick : (test : Bool) → nat_lt given.seat (length seats) ≡ test
        → ((get_or (if test then set seats given.seat taker else seats) other new_seat).stage ≡ (get_or seats other new_seat).stage) × ((acts : List Planned) → act_now acts (get_or (if test then set seats given.seat taker else seats) other new_seat) ≡ act_now acts (get_or seats other new_seat))
    pick true e = dite (ℕ_discrete other given.seat)
        (λ same.
        let now : get_or (set seats given.seat taker) other new_seat ≡ taker = ap (λ (k : ℕ). get_or (set seats given.seat taker) k new_seat) same ∙ get_or-set_same seats given.seat taker new_seat (ltb-true given.seat (length seats) e) in
        let before : get_or seats given.seat new_seat ≡ get_or seats other new_seat = ap (λ (k : ℕ). get_or seats k new_seat) (sym same) in
        (ap (λ (s : SeatValue). s.stage) now ∙ ap (λ (s : SeatValue). s.stage) before, λ acts. ap (act_now acts) now ∙ ap (act_now acts) before))
        (λ ne.
        let now = get_or-set_other seats given.seat other taker new_seat ne in
        (ap (λ (s : SeatValue). s.stage) now, λ acts. ap (act_now acts) now))
    pick false e = (refl, λ acts. refl)

given_long : (given : Option Given) (seats : List SeatValue) → length (with_given given seats) ≡ length seats
given_long None seats = refl
given_long (Some given) seats = pick (nat_lt given.seat (length seats))
  where
    taker : SeatValue
    taker = with_held given.held (get_or seats given.seat new_seat)

    pick : (test : Bool) → length (if test then set seats given.seat taker else seats) ≡ length seats
    pick true = length-set seats given.seat taker
    pick false = refl

-- a seat at the same place asks the same
pub same_asking : (slots : ℕ) (acts : List Planned) (one other : SeatValue) (view : Found View) → other.stage ≡ one.stage → act_now acts other ≡ act_now acts one → IsAsking slots acts one view → IsAsking slots acts other view
same_asking slots acts one other view stage now is =
    record {
      asking = is.asking;
      at = is.at;
      flagged_long = is.flagged_long;
      ended_long = is.ended_long;
      has_flagged = λ number e. is.has_flagged number ((λ i. asked_at (sym stage i) (sym now i)) ∙ e);
      put_inside = λ number e. is.put_inside number ((λ i. put_at (sym stage i) (sym now i)) ∙ e);
      found_inside = λ number e. is.found_inside number ((λ i. found_at (sym stage i) (sym now i)) ∙ e);
    }

-- a slot
abbrev pub slot_at : StandingValue → ℕ → Slot
slot_at standing k = get_or standing.slots k empty_slot

module _ (rules : RulesValue) (standing : StandingValue) (key : Parties) (table : SlotTable) (r : StandsFor rules standing key table) (seat : ℕ) (below : seat < length standing.seats)
    (which : ActPlace) (step : Change) where
  abbrev own : SeatValue
  own = get_or standing.seats seat new_seat

  abbrev acts : List Planned
  acts = get_or rules.acts seat []

  abbrev after : SeatValue
  after = after_step step which rules.tells own

  abbrev new : StandingValue
  new = after_change seat step which rules.tells standing

  seats_are : new.seats ≡ with_given step.gives (set standing.seats seat after)
  seats_are = ap (with_given step.gives) (item_set seat after standing.seats below)

  pub over_puts : (k : ℕ) → over_seats (puts k) rules.acts new.seats + puts k acts own ≡ over_seats (puts k) rules.acts standing.seats + puts k acts after
  over_puts k =
      let one = ap (over_seats (puts k) rules.acts) seats_are ∙ over_given (puts k) (λ acts seat held. refl) rules.acts step.gives (set standing.seats seat after) in
      let two = over_set (puts k) rules.acts standing.seats seat after below in
      omega arith

  pub over_finds : (k : ℕ) → over_seats (finds k) rules.acts new.seats + finds k acts own ≡ over_seats (finds k) rules.acts standing.seats + finds k acts after
  over_finds k =
      let one = ap (over_seats (finds k) rules.acts) seats_are ∙ over_given (finds k) (λ acts seat held. refl) rules.acts step.gives (set standing.seats seat after) in
      let two = over_set (finds k) rules.acts standing.seats seat after below in
      omega arith

  -- a slot that nothing happens to
  pub owned_still : (table_2 : SlotTable) (k : ℕ) → k < key.slots → flag_of table_2.words k ≡ flag_of table.words k → content_of table_2.words k ≡ content_of table.words k
      → get_elem? table_2.views (owner_no k) ≡ get_elem? table.views (owner_no k) → slot_at new k ≡ slot_at standing k → puts k acts after ≡ puts k acts own → finds k acts after ≡ finds k acts own
      → IsOwned table_2 k (slot_at new k) (over_seats (puts k) rules.acts new.seats) (over_seats (finds k) rules.acts new.seats)
  owned_still table_2 k less flags contents views slots putting finding =
      let is = r.owned k less in
      record {
        owning = is.owning;
        at = views ∙ is.at;
        own = is.own;
        flag_is = ap (λ (w : ℕ). w % 2) flags ∙ (is.flag_is ∙ ap (λ (s : Slot). one_if s.flag) (sym slots));
        content_is = contents ∙ (is.content_is ∙ ap (λ (s : Slot). s.content) (sym slots));
        used_is = ap (λ (s : Slot). s.used) slots ∙ is.used_is;
        stands_is = ap (λ (s : Slot). s.stands) slots ∙ is.stands_is;
        puts_is = let a = over_puts k in let b : over_seats (puts k) rules.acts new.seats ≡ over_seats (puts k) rules.acts standing.seats = omega arith in b ∙ is.puts_is;
        finds_is = let a = over_finds k in let b : over_seats (finds k) rules.acts new.seats ≡ over_seats (finds k) rules.acts standing.seats = omega arith in b ∙ is.finds_is;
      }

  pub shifted : (table_2 : SlotTable) → Kept key table_2 → table_2.homes ≡ [] → length new.slots ≡ length standing.slots
      → ((k : ℕ) → k < key.slots → IsOwned table_2 k (slot_at new k) (over_seats (puts k) rules.acts new.seats) (over_seats (finds k) rules.acts new.seats))
      → IsAsking key.slots acts after (get_elem? table_2.views (asker_no key.slots seat))
      → ((other : ℕ) → other ≢ seat → get_elem? table_2.views (asker_no key.slots other) ≡ get_elem? table.views (asker_no key.slots other))
      → StandsFor rules new key table_2
  shifted table_2 kept homes slots_long owned asks others =
      let long : length new.seats ≡ length standing.seats = ap length seats_are ∙ (given_long step.gives (set standing.seats seat after) ∙ length-set standing.seats seat after) in
      record {
        kept = kept;
        homes = homes;
        slots = slots_long ∙ r.slots;
        owned = owned;
        askers = λ other less.
            let place = given_place step.gives (set standing.seats seat after) other in
            let stage : (seat_at new other).stage ≡ (get_or (set standing.seats seat after) other new_seat).stage = ap (λ (s : List SeatValue). (get_or s other new_seat).stage) seats_are ∙ place.0 in
            let acts_now : (acts : List Planned) → act_now acts (seat_at new other) ≡ act_now acts (get_or (set standing.seats seat after) other new_seat) =
            λ acts. ap (λ (s : List SeatValue). act_now acts (get_or s other new_seat)) seats_are ∙ place.1 acts in
            dite (ℕ_discrete other seat)
            (λ e.
            let now : get_or (set standing.seats seat after) other new_seat ≡ after = ap (λ (k : ℕ). get_or (set standing.seats seat after) k new_seat) e ∙ get_or-set_same standing.seats seat after new_seat below in
            let one = same_asking key.slots acts after (seat_at new other) (get_elem? table_2.views (asker_no key.slots seat)) (stage ∙ ap (λ (s : SeatValue). s.stage) now) (acts_now acts ∙ ap (act_now acts) now) asks in
            subst (λ (k : ℕ). IsAsking key.slots (get_or rules.acts k []) (seat_at new other) (get_elem? table_2.views (asker_no key.slots k))) (sym e) one)
            (λ ne.
            let now = get_or-set_other standing.seats seat other after new_seat ne in
            let one = same_asking key.slots (get_or rules.acts other []) (seat_at standing other) (seat_at new other) (get_elem? table.views (asker_no key.slots other)) (stage ∙ ap (λ (s : SeatValue). s.stage) now) (acts_now (get_or rules.acts other []) ∙ ap (act_now (get_or rules.acts other [])) now)
            (r.askers other (omega arith)) in
            subst (λ (v : Found View). IsAsking key.slots (get_or rules.acts other []) (seat_at new other) v) (sym (others other ne)) one);
      }
