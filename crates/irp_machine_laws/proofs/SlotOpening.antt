-- As steps begin, a table stands for where the script stands, and so one does behind each order.
use Rattle.std.proofs.Common.{◌≡◌, ℕ, zero, suc, ◌+◌, ◌*◌, ◌-◌, ◌%◌, ◌<◌, ◌≤◌, false, List, [], ◌∷◌, ◌++◌, length, get_or, replicate, Option, Some, None, refl, sym, ap, ◌∙◌, subst, arith, length-append}
use Rattle.std.proofs.lemmas.List.{length-replicate}
use mathlib.Core.Option.{some}
use lib.ListN.{get_elem?}
use Rattle.irp_transcript.specs.Headers.{slots_of}
use Rattle.irp_slots.specs.declared.views.View.{View}
use Rattle.irp_slots.specs.declared.views.View.TheVariants.{First, Owner}
use Rattle.irp_slots.specs.declared.views.Parties.{Parties}
use Rattle.irp_slots.specs.Core.{Kept, flag_of, new_asking, new_canceller, new_owning, span}
use Rattle.irp_slots.proofs.Making.{at_opening, owner_made, canceller_made, span_step, zero_words}
use Rattle.irp_plain.specs.declared.parts.Change.{Change}
use Rattle.irp_machine.specs.declared.parts.Planned.{Planned}
use Rattle.irp_plain.specs.declared.parts.Slot.{Slot}
use Rattle.irp_machine.specs.Machine.{RulesValue, StepsTo, act_of, seat_at, stepped}
use Rattle.irp_machine.specs.Next.{next_of}
use Rattle.irp_machine.specs.Openings.{MakesAll, empty_slot, rules_of}
use Rattle.irp_plain.specs.Seats.{SeatValue, new_seat}
use Rattle.irp_machine.specs.Standings.{StandingValue}
use Rattle.irp_machine_laws.specs.SlotLaws.{Follows, SlotOpeningLaw, SlotOrderLaw}
use Rattle.irp_machine_laws.specs.SlotTables.{SlotTable, StandsFor, IsOwned, IsAsking, asker_no, finds, puts}
use Rattle.irp_machine_laws.proofs.SlotLaw.{slot_step_law}
use mathlib.Core.Logic.{dite}
use native.Mathlib.Decide.{ℕ_discrete}
use Rattle.irp_machine_laws.specs.Seats.{over_seats}
use Rattle.irp_machine_laws.proofs.LockOpening.{seats_new, seats_nothing}

-- ---- slots that nobody has touched

-- the idle owners of the slots below this one, and so many askers behind them
idle_owners : ℕ → List View
idle_owners zero = []
idle_owners (suc slot) = idle_owners slot ++ Owner (new_owning slot) ∷ []

with_askers : List View → ℕ → List View
with_askers owners zero = owners
with_askers owners (suc askers) = with_askers owners askers ++ new_canceller ∷ []

-- the rule holds where the first party has this left to make, and these are made
Holds : Parties → List ℕ → ℕ → List View → Type 0
Holds key owners_left cancellers_left views = Kept key (record { words = replicate (2 * key.slots + 1) 0; homes = []; views = First owners_left cancellers_left ∷ views })

owners_made : (key : Parties) → key.slots ≤ 64 → key.cancellers ≤ 64 → (slot : ℕ) → slot ≤ key.slots → Holds key (span slot (key.slots - slot)) key.cancellers (idle_owners slot)
unfolding Holds idle_owners
owners_made key few_slots few_askers zero within =
    let all : key.slots ≡ key.slots - 0 = omega arith in
    subst (λ (left : ℕ). Holds key (span 0 left) key.cancellers []) all
    (at_opening key (replicate (2 * key.slots + 1) 0) (length-replicate (2 * key.slots + 1) 0) (λ k. zero_words (replicate (2 * key.slots + 1) 0) (2 * key.slots + 1) k refl) few_slots few_askers)
owners_made key few_slots few_askers (suc slot) within =
    let before = owners_made key few_slots few_askers slot (omega arith) in
    let left_now = span_step slot key.slots (omega arith) in
    let one = subst (λ (owners_left : List ℕ). Holds key owners_left key.cancellers (idle_owners slot)) left_now before in
    let rest = span (slot + 1) (key.slots - (slot + 1)) in
    let made = owner_made key 0 slot key.cancellers rest (First (slot ∷ rest) key.cancellers) refl _ one refl in
    let more : suc slot ≡ slot + 1 = omega arith in
    subst (λ (next : ℕ). Holds key (span next (key.slots - next)) key.cancellers (idle_owners (suc slot))) (sym more) made

askers_made : (key : Parties) (owners : List View) → Holds key [] key.cancellers owners → (askers : ℕ) → askers ≤ key.cancellers → Holds key [] (key.cancellers - askers) (with_askers owners askers)
unfolding Holds with_askers
askers_made key owners start zero within = let all : key.cancellers ≡ key.cancellers - 0 = omega arith in subst (λ (left : ℕ). Holds key [] left owners) all start
askers_made key owners start (suc askers) within =
    let before = askers_made key owners start askers (omega arith) in
    let made = canceller_made key 0 (key.cancellers - askers) [] (First [] (key.cancellers - askers)) refl (omega arith) _ before refl in
    let fewer : (key.cancellers - askers) - 1 ≡ key.cancellers - suc askers = omega arith in
    subst (λ (left : ℕ). Holds key [] left (with_askers owners (suc askers))) fewer made

owners_long : (n : ℕ) → length (idle_owners n) ≡ n
unfolding idle_owners
owners_long zero = refl
owners_long (suc n) = let rest = owners_long n in let more = length-append (idle_owners n) (Owner (new_owning n) ∷ []) in omega arith

askers_long : (owners : List View) (n : ℕ) → length (with_askers owners n) ≡ length owners + n
unfolding with_askers
askers_long owners zero = omega arith
askers_long owners (suc n) = let rest = askers_long owners n in let more = length-append (with_askers owners n) (new_canceller ∷ []) in omega arith

at_front : (views : List View) (more : List View) (k : ℕ) → k < length views → get_elem? (views ++ more) k ≡ get_elem? views k
at_front [] more k less = absurd (omega arith)
at_front (view ∷ views) more zero less = refl
at_front (view ∷ views) more (suc k) less = at_front views more k (omega arith)

at_end : (views : List View) (view : View) (k : ℕ) → k ≡ length views → get_elem? (views ++ view ∷ []) k ≡ some view
at_end [] view zero is = refl
at_end [] view (suc k) is = absurd (omega arith)
at_end (first ∷ views) view zero is = absurd (omega arith)
at_end (first ∷ views) view (suc k) is = at_end views view k (omega arith)

owners_at : (n k : ℕ) → k < n → get_elem? (idle_owners n) k ≡ some (Owner (new_owning k))
unfolding idle_owners
owners_at zero k less = absurd (omega arith)
owners_at (suc n) k less = dite (ℕ_discrete k n)
    (λ e. at_end (idle_owners n) (Owner (new_owning n)) k (e ∙ sym (owners_long n)) ∙ ap (λ (j : ℕ). some (Owner (new_owning j))) (sym e))
    (λ ne. let long = owners_long n in at_front (idle_owners n) (Owner (new_owning n) ∷ []) k (omega arith) ∙ owners_at n k (omega arith))

with_front : (owners : List View) (n k : ℕ) → k < length owners → get_elem? (with_askers owners n) k ≡ get_elem? owners k
unfolding with_askers
with_front owners zero k less = refl
with_front owners (suc n) k less = let long = askers_long owners n in at_front (with_askers owners n) (new_canceller ∷ []) k (omega arith) ∙ with_front owners n k less

askers_at : (owners : List View) (n seat : ℕ) → seat < n → get_elem? (with_askers owners n) (length owners + seat) ≡ some new_canceller
unfolding with_askers
askers_at owners zero seat less = absurd (omega arith)
askers_at owners (suc n) seat less = dite (ℕ_discrete seat n)
    (λ e. let long = askers_long owners n in at_end (with_askers owners n) new_canceller (length owners + seat) (omega arith))
    (λ ne. let long = askers_long owners n in at_front (with_askers owners n) (new_canceller ∷ []) (length owners + seat) (omega arith) ∙ askers_at owners n seat (omega arith))

slots_new : (n k : ℕ) → get_or (replicate n empty_slot) k empty_slot ≡ empty_slot
slots_new zero k = refl
slots_new (suc n) zero = refl
slots_new (suc n) (suc k) = slots_new n k

seats_long : (n : ℕ) → length (replicate n new_seat) ≡ n
seats_long n = length-replicate n new_seat

module _ (slots askers : ℕ) (few_slots : slots ≤ 64) (few_askers : askers ≤ 64) where
  abbrev fresh_key : Parties
  fresh_key = record { slots = slots; cancellers = askers }

  abbrev fresh : SlotTable
  fresh = record { words = replicate (2 * slots + 1) 0; homes = []; views = First [] 0 ∷ with_askers (idle_owners slots) askers }

  kept_fresh : Kept fresh_key fresh
  unfolding Holds
  kept_fresh =
      let none : slots - slots ≡ 0 = omega arith in
      let owners = subst (λ (left : ℕ). Holds fresh_key (span slots left) askers (idle_owners slots)) none (owners_made fresh_key few_slots few_askers slots (omega arith)) in
      let last : askers - askers ≡ 0 = omega arith in
      subst (λ (left : ℕ). Holds fresh_key [] left (with_askers (idle_owners slots) askers)) last (askers_made fresh_key (idle_owners slots) owners askers (omega arith))

  owned_fresh : (number : ℕ) → number < slots → IsOwned fresh number empty_slot 0 0
  owned_fresh number less =
      let long = owners_long slots in
      let flag : flag_of fresh.words number ≡ 0 = zero_words (replicate (2 * slots + 1) 0) (2 * slots + 1) (2 * number) refl in
      record {
        owning = new_owning number;
        at = with_front (idle_owners slots) askers number (omega arith) ∙ owners_at slots number less;
        own = refl;
        flag_is = ap (λ (w : ℕ). w % 2) flag;
        content_is = zero_words (replicate (2 * slots + 1) 0) (2 * slots + 1) (2 * number + 1) refl;
        used_is = refl;
        stands_is = refl;
        puts_is = refl;
        finds_is = refl;
      }

  asking_fresh : (acts : List Planned) (seat : ℕ) → seat < askers → IsAsking slots acts new_seat (get_elem? fresh.views (asker_no slots seat))
  asking_fresh acts seat less =
      let there = askers_at (idle_owners slots) askers seat less in
      let place : get_elem? (with_askers (idle_owners slots) askers) (slots + seat) ≡ some new_canceller =
      ap (λ (n : ℕ). get_elem? (with_askers (idle_owners slots) askers) (n + seat)) (sym (owners_long slots)) ∙ there in
      record {
        asking = new_asking;
        at = place;
        flagged_long = length-replicate 64 false;
        ended_long = length-replicate 64 false;
        has_flagged = λ k e. absurd (let bad : ⊥ = cc in bad);
        put_inside = λ k e. absurd (let bad : ⊥ = cc in bad);
        found_inside = λ k e. absurd (let bad : ⊥ = cc in bad);
      }

pub slot_opening_law : SlotOpeningLaw
slot_opening_law rules header manager labels few_slots few_seats =
    let slots : ℕ = slots_of header.form in
    let key : Parties = fresh_key slots header.seats few_slots few_seats in
    let table : SlotTable = fresh slots header.seats few_slots few_seats in (
      key,
      table,
      refl,
      refl,
      record {
        kept = kept_fresh slots header.seats few_slots few_seats;
        homes = refl;
        slots = length-replicate slots empty_slot;
        owned = λ number less.
            let putting : over_seats (puts number) rules.acts (replicate header.seats new_seat) ≡ 0 = seats_nothing (puts number) (λ acts. refl) rules.acts header.seats in
            let finding : over_seats (finds number) rules.acts (replicate header.seats new_seat) ≡ 0 = seats_nothing (finds number) (λ acts. refl) rules.acts header.seats in
            let one = owned_fresh slots header.seats few_slots few_seats number less in
            let two = subst (λ (s : Slot). IsOwned table number s 0 0) (sym (slots_new slots number)) one in
            let three = subst (λ (n : ℕ). IsOwned table number (get_or (replicate slots empty_slot) number empty_slot) n 0) (sym putting) two in
            subst (λ (n : ℕ). IsOwned table number (get_or (replicate slots empty_slot) number empty_slot) (over_seats (puts number) rules.acts (replicate header.seats new_seat)) n) (sym finding) three;
        askers = λ seat less.
            let long = seats_long header.seats in
            let one = asking_fresh slots header.seats few_slots few_seats (get_or rules.acts seat []) seat (omega arith) in
            subst (λ (s : SeatValue). IsAsking slots (get_or rules.acts seat []) s (get_elem? table.views (asker_no slots seat))) (sym (seats_new header.seats seat)) one;
      },
    )

-- ---- orders

module _ (rules : RulesValue) (key : Parties) where
  -- an order from where a table stands for where the script stands
  Goes : StandingValue → SlotTable → List ℕ → StandingValue → Type 0
  Goes old table path new = (last : SlotTable) × Follows rules key.slots old table path new last × StandsFor rules new key last

  -- the next step of a seat, and an order behind it
  step_first : (path : List ℕ) (old new middle : StandingValue) (table : SlotTable) (seat : ℕ) → StandsFor rules old key table
      → (found : Option Planned) → act_of rules old seat ≡ found → StepsTo rules old seat found (Some middle)
      → ((after : SlotTable) → StandsFor rules middle key after → Goes middle after path new) → Goes old table (seat ∷ path) new
  unfolding Goes
  step_first path old new middle table seat stands None is steps on = absurd (let bad : ⊥ = cc in bad)
  step_first path old new middle table seat stands (Some planned) is steps on =
      let one : StandingValue = steps.0 in
      let told : Some middle ≡ Some one = steps.1 in
      let same : middle ≡ one = cc in
      let step : Change = steps.2.0 in
      let lead : middle ≡ stepped rules old seat planned (next_of old (seat_at old seat) planned) step steps.2.1 = same ∙ steps.2.2 in
      let done = slot_step_law rules old key table seat planned step stands is steps.2.1 in
      let rest = on done.0 (subst (λ (s : StandingValue). StandsFor rules s key done.0) (sym lead) done.2) in
      (rest.0, (middle, done.0, record { planned = planned; step = step; act = is; next = steps.2.1; leads = lead; at = done.1 }, rest.1), rest.2)

  pub goes : (path : List ℕ) (old new : StandingValue) (table : SlotTable) → StandsFor rules old key table → MakesAll rules old path new
      → (last : SlotTable) × Follows rules key.slots old table path new last × StandsFor rules new key last
  unfolding Goes
  goes [] old new table stands makes = (table, (makes, refl), subst (λ (s : StandingValue). StandsFor rules s key table) makes stands)
  goes (seat ∷ path) old new table stands makes =
      step_first path old new makes.0 table seat stands (act_of rules old seat) refl makes.1 (λ after stands_2. goes path makes.0 new after stands_2 makes.2)

pub slot_order_law : SlotOrderLaw
slot_order_law header script rivals steps tells start path new order =
    let rules : RulesValue = rules_of header script rivals steps tells in
    let opens = order.opens in
    let opened = slot_opening_law rules header opens.0.manager opens.0.labels order.few_slots order.few_seats in
    let key : Parties = opened.0 in
    let table : SlotTable = opened.1 in
    let stands : StandsFor rules start key table = subst (λ (s : StandingValue). StandsFor rules s key table) (sym opens.2) opened.4 in
    let done = goes rules key path start new table stands order.makes in
    (key, table, done.0, opened.2, stands, done.1, done.2)
